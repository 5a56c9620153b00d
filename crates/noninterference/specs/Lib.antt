-- 02, L9: neither editor is felt by the other.
pub mod TwoRuns
