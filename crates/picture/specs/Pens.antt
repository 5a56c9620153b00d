-- 01, "Drawing the current line": the pens of a screen byte.
use Rattle.std.specs.Prelude.{List, [], ◌∷◌, ℕ, zero, suc, ◌+◌, ◌-◌, ◌*◌, ◌/◌, take}
use Rattle.common.specs.Choice.{bit, of_bool}

-- a pen has one bit in mode 2, two in mode 1 and four in mode 0, and is as many positions wide as it has bits
abbrev pub width_of : ℕ → ℕ
width_of zero = 4
width_of (suc zero) = 2
width_of (suc (suc mode)) = 1

-- the bits of a byte's first pen, lowest first; the next pen has those one lower, and so on
abbrev pub places : List ℕ
places = 7 ∷ 3 ∷ 5 ∷ 1 ∷ []

abbrev pub gathered : List ℕ → ℕ → ℕ → ℕ
gathered [] q b = 0
gathered (k ∷ ks) q b = of_bool (bit (k - q) b) + 2 * gathered ks q b

-- pen q of a byte, at this pen width: mode 2 takes bit 7 - q; mode 1 bits 7 and 3; mode 0 bits 7, 3, 5 and 1
unfoldable pub pen : ℕ → ℕ → ℕ → ℕ
pen width b q = gathered (take width places) q b

-- the pen at one of a byte's 8 positions
unfoldable pub pen_at : ℕ → ℕ → ℕ → ℕ
pen_at width b j = pen width b (j / width)
