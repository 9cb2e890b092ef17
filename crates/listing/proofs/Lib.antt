pub mod Sounded
pub mod Accepting
