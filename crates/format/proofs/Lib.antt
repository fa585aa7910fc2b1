pub mod Complement
pub mod Digits
pub mod Weighted
pub mod Places
