-- The lines of a listing, as texts of what they show.
pub mod Lines
pub mod Rows
