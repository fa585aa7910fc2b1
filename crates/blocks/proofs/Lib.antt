pub mod Any
pub mod Wrong
pub mod Order
pub mod Accepted
