-- What reading standard input promises.
pub mod Input
