-- Laws of takes: numbers as bytes, records, the rules, what is stored and read, and files.
pub mod Numbers
pub mod Records
pub mod FirstBad
pub mod Storing
pub mod Writing
pub mod Trailers
pub mod Opening
pub mod Files
