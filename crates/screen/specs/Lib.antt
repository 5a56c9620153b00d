-- 01, "Drawing the current line": the main screen on a line.
pub mod Tables
pub mod MainLine
-- for the code's own parts only, cited by no public promise
pub mod Placing
