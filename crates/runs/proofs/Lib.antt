-- Laws over runs.
pub mod Contracts
pub mod Calls
pub mod Numbers
pub mod Worlds
pub mod ChipWidths
pub mod Views
pub mod Runs
pub mod History
pub mod Within
pub mod Traces
pub mod TakesBack
pub mod Exist
pub mod Pairs
pub mod Free
pub mod Opens
pub mod Mutes
