pub mod Places
pub mod FilePlaces
pub mod Unique
pub mod Apart
