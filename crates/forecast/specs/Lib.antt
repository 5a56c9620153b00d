-- 01, "Sound": the forecast of a list, what is left of it while it plays, demand 3, and a run as one channel sees it.
pub mod Rule
pub mod Left
pub mod Demand
pub mod Played
pub mod Contract
pub mod Examples
-- for the code's single pass only, cited by no public promise
pub mod Pass
