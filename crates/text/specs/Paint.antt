-- The line of a record that shows a line.
use Rattle.std.specs.Prelude.{List, [], ◌∷◌, ◌++◌, ℕ, zero, suc, ◌+◌, eqb, ltb}
use Rattle.common.specs.Answers.{done}
use Rattle.common.specs.Choice.{if}
use Rattle.common.specs.Sizes.{line_bytes}
use Rattle.sound.specs.declared.Report.{Report}
use Rattle.text.specs.Text.{numeral, line_end}
use Rattle.text.specs.Lines.{report_text}

-- the character of a palette entry: 0-9, then a-v; a question mark for a number that is none
abbrev pub character : ℕ → ℕ
character e = if (ltb e 10) (48 + e) (if (ltb e 32) (87 + e) 63)

-- the characters of the first n positions, by the entry at each
unfoldable pub characters : (ℕ → ℕ) → ℕ → List ℕ
characters entry zero = []
characters entry (suc n) = characters entry n ++ character (entry n) ∷ []

-- the answer, and if it is 0 the 640 entries and the report
unfoldable pub painted_line : ℕ → (ℕ → ℕ) → Report → List ℕ
painted_line answer entry r = numeral answer ++ if (eqb answer done) (32 ∷ characters entry line_bytes ++ report_text r) [] ++ line_end
