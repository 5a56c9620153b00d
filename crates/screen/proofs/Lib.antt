-- What the proofs share: the table's rule, and pairs of values.
pub mod Table
pub mod Pairs
