-- 02, L10: mending an old list, and what the call promises; and the code's own parts.
pub mod Rule
pub mod Contract
pub mod Passes
