-- One arc of a plan that stands ready, and the counts that it may be held at.
pub mod Standing
