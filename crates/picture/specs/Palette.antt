-- 01, "The register page": the palette.
use Rattle.std.specs.Prelude.{ℕ, ◌+◌, ◌*◌, ◌/◌, ◌%◌, eqb}
use Rattle.common.specs.Choice.{if}

-- an entry is two bytes, low then high; of a high byte only the low 4 bits are kept
unfoldable pub kept_byte_of : ℕ → ℕ → ℕ
kept_byte_of place b = if (eqb (place % 2) 0) b (b % 16)

-- red is the upper 4 bits of the low byte, blue its lower 4; green is the low 4 bits of the high byte
abbrev pub red : ℕ → ℕ
red low = low / 16

abbrev pub blue : ℕ → ℕ
blue low = low % 16

abbrev pub green : ℕ → ℕ
green high = high % 16

-- the grey of an entry: 9 green + 3 red + blue
unfoldable pub grey_of : ℕ → ℕ → ℕ
grey_of low high = 9 * green high + 3 * red low + blue low
