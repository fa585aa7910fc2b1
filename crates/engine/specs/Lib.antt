-- Moving along a path, and what settling leaves.
pub mod Path
pub mod Settle
