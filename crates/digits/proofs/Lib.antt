-- Laws of the digits of a number.
pub mod Digits
