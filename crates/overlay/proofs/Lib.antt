-- What the proofs share: signed distances, a sprite's row, the first that shows, where sprites begin and end, rising
-- lists, and stretches.
pub mod Distances
pub mod Rows
pub mod Search
pub mod Stretches
pub mod Lists
pub mod Covers
