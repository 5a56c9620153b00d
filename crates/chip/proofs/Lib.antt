-- Laws of the chip's calls.
pub mod Serving
pub mod Stepping
pub mod ChannelLaws
pub mod EditingLaws
