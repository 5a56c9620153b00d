-- Serves only the code, which makes a line from its parts (border by its edges, main pens, the sprites on it), in the contracts of
-- private functions. No public promise cites it: what a line shows is said by Drawing alone.
use Rattle.std.specs.Prelude.{◌≡◌, Bool, List, ℕ, ◌+◌, ◌-◌, ◌*◌, ◌<◌, ◌≤◌, eqb, leb, ltb, get_or}
use Rattle.common.specs.Choice.{if, either, bit}
use Rattle.crtc.specs.declared.Registers.{Registers}
use Rattle.crtc.specs.declared.Counters.{Counters}
use Rattle.screen.specs.MainLine.{line_pen}
use Rattle.overlay.specs.Overlay.{first_on}
use Rattle.overlay.specs.Stretches.{first_cover}
use Rattle.overlay.specs.declared.shown.LineSprite.{LineSprite}
use Rattle.overlay.specs.declared.shown.LineSprites.{LineSprites}
use Rattle.draw.specs.declared.layout.Edges.{Edges}
use Rattle.draw.specs.declared.layout.Main.{Main}

-- the left edge is at 16 if SSCR bit 7 is set
abbrev pub left_of : ℕ → ℕ
left_of sscr = if (bit 7 sscr) 16 0

-- the right edge lies after R1 characters or at the line's end, and at 0 with the whole line border
abbrev pub right_of : Registers → Counters → ℕ
right_of r c = if (either c.adjust (leb r.r6 c.vc)) 0 (if (leb 40 r.r1) 640 (r.r1 * 16))

-- x is border below the left edge and from the right one on
abbrev pub outside : ℕ → ℕ → ℕ → Bool
outside left right x = either (ltb x left) (leb right x)

-- the main pen at x: pen 0 left of the scroll
unfoldable pub main_at : List ℕ → Main → ℕ → ℕ
main_at ram m x = if (ltb x m.scroll) 0 (line_pen ram m.mode m.address m.row (x - m.scroll))

-- a sprite's pixel over an entry: 0 lets it show
abbrev pub over : ℕ → ℕ → ℕ
over pixel v = if (eqb pixel 0) v (16 + pixel)

-- at x, over an entry: the first of n sprites with a pixel there
unfoldable pub over_at : List ℕ → List LineSprite → ℕ → ℕ → ℕ → ℕ
over_at store list n x v = over (first_on store list x n) v

-- the same of so many that cover a stretch
unfoldable pub covered_at : List ℕ → List LineSprite → List ℕ → ℕ → ℕ → ℕ → ℕ
covered_at store list covers count x v = over (first_cover store list covers x count) v

-- border, then the first sprite with a pixel there, then the main pen
unfoldable pub mixed_at : List ℕ → Main → LineSprites → List ℕ → Edges → ℕ → ℕ
mixed_at ram main shown store edges x =
    if (outside edges.left edges.right x) 16 (over_at store shown.list shown.count x (main_at ram main x))

-- a line has what a function gives, below n
pub record Has (f : ℕ → ℕ) (n : ℕ) (line : List ℕ) : Type 0 where
  pub entry : (x : ℕ) → x < n → get_or line x 0 ≡ f x

-- from one position up to another a line has what a function gives for the position and what stood there; the rest is kept
pub record Changed (f : ℕ → ℕ → ℕ) (from to : ℕ) (before after : List ℕ) : Type 0 where
  pub inside : (x : ℕ) → from ≤ x → x < to → get_or after x 0 ≡ f x (get_or before x 0)
  pub below : (x : ℕ) → x < from → get_or after x 0 ≡ get_or before x 0
  pub beyond : (x : ℕ) → to ≤ x → get_or after x 0 ≡ get_or before x 0
