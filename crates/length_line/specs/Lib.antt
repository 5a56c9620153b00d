-- The line of a list.
pub mod Line
