-- Serves only the code's laying of pens, a byte or a line at a time, in the contracts of private functions. No public promise cites it: a
-- line's pens are said by MainLine, and the table by Tables.
use Rattle.std.specs.Prelude.{◌≡◌, List, ℕ, ◌+◌, ◌/◌, ◌%◌, ◌<◌, eqb, get_or}
use Rattle.common.specs.Choice.{if}
use Rattle.picture.specs.Screen.{character_at, byte_address}

-- n values of a function in place, and what stood before them kept
pub record Placed (f : ℕ → ℕ) (at n : ℕ) (before after : List ℕ) : Type 0 where
  pub kept : (p : ℕ) → p < at → get_or after p 0 ≡ get_or before p 0
  pub put : (j : ℕ) → j < n → get_or after (at + j) 0 ≡ f j

-- a line's 80 screen bytes, two a character
unfoldable pub line_byte : List ℕ → ℕ → ℕ → ℕ → ℕ
line_byte ram address row i = get_or ram (byte_address (character_at address (i / 2)) row (i % 2)) 0

pub record LineBytes (ram : List ℕ) (address row : ℕ) (bytes : List ℕ) : Type 0 where
  pub each : (i : ℕ) → i < 80 → get_or bytes i 0 ≡ line_byte ram address row i

-- two values of each one: what a function gives for it with 0, then with 1
unfoldable pub paired : (ℕ → ℕ → ℕ) → List ℕ → ℕ → ℕ
paired f from p = f (get_or from (p / 2) 0) (p % 2)

-- a value as it is, both times
abbrev pub copy_of : ℕ → ℕ → ℕ
copy_of v r = v

-- its quotient by a number, then its remainder
abbrev pub part_of : ℕ → ℕ → ℕ → ℕ
part_of by v r = if (eqb r 0) (v / by) (v % by)
