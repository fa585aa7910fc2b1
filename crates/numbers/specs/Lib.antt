pub mod Sums
pub mod Parts
