-- 01, "Drawing the current line", with 02, L4: a table of pens, which mode 1 has.
use Rattle.std.specs.Prelude.{◌≡◌, List, ℕ, ◌+◌, ◌*◌, ◌/◌, ◌<◌, get_or}
use Rattle.picture.specs.Pens.{pen}

-- a table of all screen bytes at this pen width: a byte's pens in order, 8 / width of them
pub record Table (width : ℕ) (t : List ℕ) : Type 0 where
  pub rule : (b q : ℕ) → b < 256 → q < 8 / width → get_or t (b * (8 / width) + q) 0 ≡ pen width b q
