-- 01, "Sound": one channel's line in Channels, then a line of all three in Line.
pub mod Channels
pub mod Line
