-- Laws of the reader.
pub mod Places
pub mod HandedOut
