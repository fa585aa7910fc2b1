pub mod Grid
pub mod Assigned
pub mod Counted
pub mod Words
pub mod Refused
