pub mod Answer
pub mod Cut
pub mod Equal
pub mod Checks
pub mod Once
pub mod Rows
pub mod Sheets
pub mod Longest
