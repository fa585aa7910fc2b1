-- How a domain is read off narrowed counts, and what the requests of a counting plan answer.
pub mod Narrowed
pub mod Answer
