-- 01, "The register page": sprites and palette; "Drawing the current line": pens, screen bytes, a sprite on a line.
pub mod Sprites
pub mod Palette
pub mod Pens
pub mod Screen
pub mod SpriteLine
