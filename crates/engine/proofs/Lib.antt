pub mod Account
pub mod Moving
pub mod Settling
