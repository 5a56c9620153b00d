-- What the proofs share, and the laws of placing: it has one outcome, and one only.
pub mod Bits
pub mod Room
pub mod Bounds
pub mod Uses
pub mod Placing
pub mod Only
pub mod Some
pub mod Stored
