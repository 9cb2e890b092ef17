pub mod Standing
pub mod Older
pub mod Walking
pub mod Playing
