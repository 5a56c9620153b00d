-- Laws of a take played.
pub mod Lines
pub mod Slots
pub mod Asks
pub mod Counts
pub mod Playing
pub mod Ways
pub mod ByHand
pub mod Possible
