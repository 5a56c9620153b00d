-- 01, "Drawing the current line".
pub mod Drawing
-- for the code's own parts only, cited by no public promise
pub mod Mixing
