-- What the proofs share: one entry more, and a line's entries from its parts.
pub mod Entries
pub mod Parts
