-- What the listing of a plan file is.
pub mod Listing
