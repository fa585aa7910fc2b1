-- Words as sets of numbers.
pub mod Word
