-- What the reason for an end promises, and what it is worked out from.
pub mod Answer
pub mod Freed
