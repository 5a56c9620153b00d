-- 02, L12: what holds of placed lists from reset on, and what the rule that a list in use can't be removed gives.
pub mod Session
pub mod Kept
pub mod InUse
