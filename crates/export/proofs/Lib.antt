-- The export's laws, and what the proofs share.
pub mod Putting
pub mod Addresses
