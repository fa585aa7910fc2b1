-- Rooms between nodes, the accounts that stay, and the moves that keep them.
pub mod Room
pub mod Move
