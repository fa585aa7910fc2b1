pub mod Built
pub mod Asked
pub mod Answering
pub mod Unique
pub mod Worked
