-- Mended words play as the old ones did: a word and a line of a channel, how far a channel is in a list, two plays, two runs of calls, the
-- forecast; and that such runs exist.
pub mod Deeds
pub mod Inside
pub mod Words
pub mod Plays
pub mod Runs
pub mod Forecasts
pub mod Claim
pub mod Exist
pub mod Muted
