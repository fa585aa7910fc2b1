-- What a file is turned down for, and what it says of itself where it is not.
pub mod Rules
pub mod Sound
