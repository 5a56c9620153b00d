-- The code's own: what its passes over a text give. Both calls measure first and write afterwards.
use Rattle.std.specs.Prelude.{◌≡◌, List, [], ◌∷◌, ℕ, ◌+◌, length, Result, Ok, Err}
use Rattle.listing.specs.Text.{Parsed}
use Rattle.listing.specs.declared.FirstBad.{FirstBad}

-- how many words a text has, or the number of its first line that is none's
abbrev pub lines_of : List ℕ → List ℕ → Result ℕ FirstBad
lines_of words [] = Ok (length words)
lines_of words (x ∷ rest) = Err (record { 0 = length words + 1 })

pub record Checked (text : List ℕ) (told : Result ℕ FirstBad) : Type 0 where
  pub words : List ℕ
  pub rest : List ℕ
  pub parsed : Parsed text words rest
  pub lines : told ≡ lines_of words rest

-- all of a text is the lines of so many words
pub record Listed (text : List ℕ) (count : ℕ) : Type 0 where
  pub words : List ℕ
  pub parsed : Parsed text words []
  pub counted : count ≡ length words
