-- The calls as one transition system: a world, the calls made on it, each known by its contract alone, and runs of them.
pub mod World
pub mod Call
pub mod Sort
pub mod Run
pub mod Reached
pub mod Trace
pub mod Pair
