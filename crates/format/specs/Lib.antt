-- The plan file's format: what stands where in the file of a network, and what the bytes of a file say.
pub mod Format
pub mod Held
pub mod Records
pub mod Block
