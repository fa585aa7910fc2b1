-- Text as a list of bytes: words, numbers in decimal, lines, what it is to have printed a text on a page, and the value of digits.
pub mod Words
pub mod Decimal
pub mod Texts
pub mod Page
