-- The laws of placed lists over calls and runs: what a call does to area, places and RAM; lists stay apart and as they were placed; a list
-- that plays stays; a channel comes to freed room by its first word.
pub mod Kept
pub mod Rooms
pub mod Sessions
pub mod Plays
pub mod Enters
pub mod Claim
pub mod Exist
