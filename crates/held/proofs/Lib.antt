pub mod Unique
pub mod Answering
