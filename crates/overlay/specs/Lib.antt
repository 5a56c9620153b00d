-- 01, "Drawing the current line": the sprites over the main screen.
pub mod Overlay
-- for the code's own parts only
pub mod Kept
pub mod Rising
pub mod Stretches
pub mod Spans
