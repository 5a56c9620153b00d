-- The laws between the lock's stages and the patterns of its history, and some histories.
pub mod Steps
pub mod Examples
