pub mod Recent
pub mod Turns
pub mod Inside
pub mod History
pub mod Slots
pub mod Views
pub mod Ones
