pub mod Layout
pub mod Order
pub mod Shown
pub mod Inner
