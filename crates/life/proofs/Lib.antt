pub mod Linking
pub mod Pushing
pub mod Growing
pub mod Obeying
pub mod Standing
pub mod Going
