pub mod Unique
pub mod Demand3
