pub mod Alike
pub mod Fitting
pub mod Listed
pub mod Unique
pub mod Every
pub mod Worked
