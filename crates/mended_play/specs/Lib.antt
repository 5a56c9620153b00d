-- 02, L10: how mended words play beside the old ones: lines of a channel, and two runs of calls.
pub mod Play
pub mod Sameness
