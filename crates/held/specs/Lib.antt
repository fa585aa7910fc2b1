-- What an arc held at a count promises.
pub mod Answer
