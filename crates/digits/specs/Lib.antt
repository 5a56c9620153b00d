-- The digits of a number.
pub mod Digits
