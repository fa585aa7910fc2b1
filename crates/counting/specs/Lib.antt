-- Counting plans: what an assignment is, the network that a counting plan is drawn as, and what turns it down.
pub mod Counting
pub mod Network
pub mod Rules
