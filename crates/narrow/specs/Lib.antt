-- What narrowing promises.
pub mod Answer
