-- The reach of a set of nodes through the rooms, and what a search over words leaves.
pub mod Reach
pub mod Search
