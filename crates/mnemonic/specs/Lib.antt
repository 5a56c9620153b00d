-- The line of a word in a text; and the code's own: a line by its parts.
pub mod Mnemonic
pub mod Parts
pub mod Writing
