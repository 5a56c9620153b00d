-- The text of a list of words, what a text reads as, what printing and reading answer, and what both promise; and the code's own parts.
pub mod Text
pub mod Print
pub mod Read
pub mod Contract
pub mod Passes
