-- The code's own: a line by its parts.
use Rattle.std.specs.Prelude.{List, [], ◌∷◌, ◌++◌, ℕ, ◌/◌, ◌%◌}
use Rattle.digits.specs.Digits.{digits, decimal}
use Rattle.mnemonic.specs.Mnemonic.{LOAD, PAUSE, REPEAT, WORD, blank, lf}

-- a number in decimal and the character after it
abbrev pub decimal_then : ℕ → ℕ → List ℕ
decimal_then n after = decimal n ++ after ∷ []

-- the forms of a line, in the parts that are put one after another
abbrev pub load_line_of : ℕ → List ℕ
load_line_of w = (((LOAD ++ blank ∷ []) ++ decimal_then (w / 256) blank) ++ digits 16 2 (w % 256)) ++ lf ∷ []

abbrev pub pause_line : ℕ → List ℕ
pause_line w = (PAUSE ++ blank ∷ []) ++ decimal_then (w % 4096) lf

abbrev pub repeat_line : ℕ → List ℕ
repeat_line w = (REPEAT ++ blank ∷ []) ++ decimal_then (w % 4096) lf

abbrev pub word_line : ℕ → List ℕ
word_line w = (((WORD ++ blank ∷ []) ++ digits 16 2 (w / 256)) ++ digits 16 2 w) ++ lf ∷ []
