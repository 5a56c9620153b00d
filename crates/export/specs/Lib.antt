-- 02, L5: the export of the registers.
pub mod Export
-- for the code's own parts only, cited by no public promise
pub mod Parts
