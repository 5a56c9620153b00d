-- Laws that the crates above share.
pub mod Lists
pub mod Storing
pub mod Order
pub mod Tests
pub mod Begins
pub mod Words
pub mod Chunks
