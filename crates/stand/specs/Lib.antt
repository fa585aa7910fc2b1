-- How a plan stands in the engine's numbers, the desk that it is worked out on, and what asking it shows.
pub mod State
pub mod Desk
pub mod Ask
