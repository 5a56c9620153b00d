-- Laws of the listing.
pub mod Texts
pub mod Parsing
pub mod Stages
pub mod Answers
pub mod RoundTrip
pub mod Possible
pub mod BadLine
