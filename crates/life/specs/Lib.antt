pub mod Readings
pub mod Outcomes
pub mod Laws
pub mod Chains
pub mod Promises
