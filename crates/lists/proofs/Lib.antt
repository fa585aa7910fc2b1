pub mod Entries
pub mod Arcs
pub mod Same
pub mod Writing
