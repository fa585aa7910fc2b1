-- What the flow question promises.
pub mod Answer
