pub mod Crossing
pub mod Rounds
pub mod Flooding
pub mod Holding
