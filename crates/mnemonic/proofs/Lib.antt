-- Laws of a word's line.
pub mod Lines
pub mod Ends
