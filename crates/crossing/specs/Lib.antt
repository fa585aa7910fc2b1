-- How an answer crosses to C, and what C is told of a payload.
pub mod Payload
pub mod Crossing
