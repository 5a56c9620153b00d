-- The code's own: a text behind the bytes with which it begins.
pub mod Rest
