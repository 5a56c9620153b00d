-- Laws of a text that begins with a word's line.
pub mod Values
pub mod Guessing
