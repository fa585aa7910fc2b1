pub mod Taking
pub mod Flat
pub mod Entry
