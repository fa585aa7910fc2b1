pub mod Unique
pub mod Demand3
pub mod Freeing
pub mod Answering
