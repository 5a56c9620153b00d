-- Serves only the code: what it knows of a sprite that it keeps for a line. The promise of drawing cites none of it.
use Rattle.std.specs.Prelude.{◌≡◌, List, ℕ, ◌<◌, ◌≤◌, pos, get_or}
use Rattle.overlay.specs.declared.shown.LineSprite.{LineSprite}

-- a magnification that is not off: 1, 2 or 4
pub record Magnification (m : ℕ) : Type 0 where
  pub four : (m ≡ 1 → ⊥) → (m ≡ 2 → ⊥) → m ≡ 4

-- what shows nowhere
abbrev pub no_line_sprite : LineSprite
no_line_sprite = record { x = pos 0; magnification = 0; pixels = 0 }

-- one that is kept has a magnification, and the 16 pixels of its row lie in the store
pub record Sized (e : LineSprite) : Type 0 where
  pub magnified : Magnification e.magnification
  pub stored : e.pixels ≤ 4080

-- so many of a list are kept
abbrev pub AllSized : List LineSprite → ℕ → Type 0
AllSized list n = (k : ℕ) → k < n → Sized (get_or list k no_line_sprite)
