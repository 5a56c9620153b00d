-- 01, "Drawing the current line": the pixel of the lowest-numbered sprite. The second half serves only the code, which keeps the
-- sprites that a line can show in a list of its own.
use Rattle.std.specs.Prelude.{◌≡◌, List, true, false, ℕ, zero, suc, ◌+◌, ◌/◌, ◌%◌, ◌<◌, ◌≤◌, eqb, ℤ, pos, ◌-ℤ◌, get_or, Option, Some, None, IfSome}
use Rattle.std.specs.Option.{option_map_or}
use Rattle.std.specs.Int.Signed.{lt_z}
use Rattle.common.specs.Choice.{if}
use Rattle.picture.specs.Sprites.{off_sprite}
use Rattle.picture.specs.SpriteLine.{y_scale, cell_at, pixel_at}
use Rattle.picture.specs.declared.sprite.Sprite.{Sprite}
use Rattle.overlay.specs.Kept.{no_line_sprite}
use Rattle.overlay.specs.declared.shown.LineSprite.{LineSprite}
use Rattle.overlay.specs.declared.shown.LineSprites.{LineSprites}

-- the first of so many that is not 0, else 0
abbrev pub first_of : (ℕ → ℕ) → ℕ → ℕ
first_of f zero = 0
first_of f (suc n) = if (eqb (first_of f n) 0) (f n) (first_of f n)

-- the pixel at line y and position x: that of the lowest-numbered of n sprites that has one that is not 0
unfoldable pub first_pixel : List ℕ → List Sprite → ℕ → ℕ → ℕ → ℕ
first_pixel store sprites y x n = first_of (λ k. pixel_at store k (get_or sprites k off_sprite) y x) n

-- ---- from here on the sprites on a line as the code keeps them; the promise of drawing cites none of it

-- a number divided by a magnification, which is 1, 2 or 4; any other counts as 4
abbrev pub divided : ℕ → ℕ → ℕ
divided n m = if (eqb m 1) n (if (eqb m 2) (n / 2) (n / 4))

-- the row at a distance, or none: what a function gives for it
pub record Cell (scale : ℕ) (d : ℤ) (r : Option ℕ) : Type 0 where
  pub bound : IfSome r (λ row. row < 16)
  pub gives : (f : ℕ → ℕ) → cell_at scale d f ≡ option_map_or f r 0

-- the row of a sprite that line y lies in: with none it shows nothing there, else the row is the one at the distance
abbrev pub OnLine : Sprite → ℕ → Option ℕ → Type 0
OnLine s y None = (store : List ℕ) (n x : ℕ) → pixel_at store n s y x ≡ 0
OnLine s y (Some row) = Cell (y_scale s) (pos y -ℤ s.y) (Some row)

-- the pixel at x of a sprite on a line
unfoldable pub pixel_on : List ℕ → LineSprite → ℕ → ℕ
pixel_on store e x = cell_at e.magnification (pos x -ℤ e.x) (λ column. get_or store (e.pixels + column) 0 % 16)

-- the pixel at x of the first of so many that has one, else 0
unfoldable pub first_on : List ℕ → List LineSprite → ℕ → ℕ → ℕ
first_on store list x count = first_of (λ k. pixel_on store (get_or list k no_line_sprite) x) count

-- a sprite at X begins at a position: those before it lie left of its edge, and no others do
pub record Begins (z : ℤ) (left : ℕ) : Type 0 where
  pub before : (p : ℕ) → p < left → lt_z (pos p -ℤ z) (pos 0) ≡ true
  pub after : (p : ℕ) → left ≤ p → lt_z (pos p -ℤ z) (pos 0) ≡ false

-- and ends at a position: those before it lie nearer to its edge than it spans, and no others do
pub record Ends (z : ℤ) (span right : ℕ) : Type 0 where
  pub before : (p d : ℕ) → p < right → pos p -ℤ z ≡ pos d → d < span
  pub after : (p d : ℕ) → right ≤ p → pos p -ℤ z ≡ pos d → span ≤ d

-- at every x the sprites on a line show what the sixteen have there; which of them have a place in the list is left open
pub record Overlay (sprites : List Sprite) (y : ℕ) (r : LineSprites) : Type 0 where
  pub first : (store : List ℕ) (x : ℕ) → first_on store r.list x r.count ≡ first_pixel store sprites y x 16
