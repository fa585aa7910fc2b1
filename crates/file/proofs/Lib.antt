pub mod Unique
pub mod OneFile
pub mod RoundTrip
pub mod Worked
pub mod Fitting
