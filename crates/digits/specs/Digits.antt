-- Request L1: the digits of a number, as character codes.
use Rattle.std.specs.Prelude.{List, [], ◌∷◌, ◌++◌, ℕ, zero, suc, ◌+◌, ◌/◌, ◌%◌, ltb}
use Rattle.common.specs.Choice.{if}

-- the character of a digit below 16: 0 to 9, then A to F
unfoldable pub glyph : ℕ → ℕ
glyph d = if (ltb d 10) (48 + d) (55 + d)

-- the last k digits of a number in a base
abbrev pub digits : ℕ → ℕ → ℕ → List ℕ
digits base zero n = []
digits base (suc k) n = digits base k (n / base) ++ glyph (n % base) ∷ []

-- how many digits a number has in a base with no zero in front, k + 1 at most
abbrev pub digit_count : ℕ → ℕ → ℕ → ℕ
digit_count base zero n = 1
digit_count base (suc k) n = if (ltb n base) 1 (suc (digit_count base k (n / base)))

-- a register or a count, below 10,000: decimal with no zero in front
unfoldable pub decimal : ℕ → List ℕ
decimal n = digits 10 (digit_count 10 3 n) n

-- data has two digits, a whole word four: hexadecimal
abbrev pub hexadecimal : ℕ → ℕ → List ℕ
hexadecimal k n = digits 16 k n
