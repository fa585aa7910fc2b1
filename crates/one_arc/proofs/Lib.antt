pub mod Holding
pub mod OneArc
