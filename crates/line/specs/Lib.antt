-- 02, L11: one call for a line.
pub mod Contract
