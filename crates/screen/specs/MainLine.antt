-- 01, "Drawing the current line": the main screen's pens on a line.
use Rattle.std.specs.Prelude.{◌≡◌, List, ℕ, ◌+◌, ◌/◌, ◌%◌, ◌<◌, length, get_or}
use Rattle.picture.specs.Pens.{width_of, pen_at}
use Rattle.picture.specs.Screen.{character_at, byte_address}

-- the pen at a position p of a line, counted from where the scroll starts: 16 positions a character, 8 a byte
unfoldable pub line_pen : List ℕ → ℕ → ℕ → ℕ → ℕ → ℕ
line_pen ram mode address row p =
    pen_at (width_of mode) (get_or ram (byte_address (character_at address (p / 16)) row (p / 8 % 2)) 0) (p % 8)

-- the pens of a whole line, after 16 of pen 0, which show left of the scroll
pub record LinePens (ram : List ℕ) (mode address row : ℕ) (pens : List ℕ) : Type 0 where
  pub size : length pens ≡ 656
  pub lead : (p : ℕ) → p < 16 → get_or pens p 0 ≡ 0
  pub pen : (p : ℕ) → p < 640 → get_or pens (16 + p) 0 ≡ line_pen ram mode address row p
