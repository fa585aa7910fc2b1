-- What it means that a list of arc structs is taken apart.
pub mod Taken
