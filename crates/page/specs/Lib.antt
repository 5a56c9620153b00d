-- 01, "The register page", with 02, L5: page reads, page writes and their record, and undo.
pub mod UndoRecord
pub mod Page
pub mod Undo
-- for the code's own parts only, cited by no public promise
pub mod Parts
