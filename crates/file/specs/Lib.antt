-- What reading, writing and the requests for a payload promise.
pub mod Answer
