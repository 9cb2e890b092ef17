pub mod Coding
pub mod Sounds
