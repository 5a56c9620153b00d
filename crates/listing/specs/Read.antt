-- Request L1, reading: the answer, the words written, the first bad line and the buffer.
use Rattle.std.specs.Prelude.{◌≡◌, List, [], ◌∷◌, ℕ, ◌+◌, leb, length}
use Rattle.std.proofs.lemmas.List.Edits.{sets}
use Rattle.common.specs.Choice.{if}
use Rattle.common.specs.Answers.{done, not_listing, too_small, served}
use Rattle.listing.specs.Text.{Parsed}

-- a text with something left that is no word's line is refused first; then words that the buffer has no room for
abbrev pub read_answer : List ℕ → List ℕ → ℕ → ℕ
read_answer words [] room = if (leb (length words) room) done too_small
read_answer words (x ∷ rest) room = not_listing

-- the first bad line comes after those of the words: its number from 1, or 0 where no line is bad
abbrev pub bad_line : List ℕ → List ℕ → ℕ
bad_line words [] = 0
bad_line words (x ∷ rest) = length words + 1

-- reading a text into a buffer of words: what lies beyond the words stays, and all of the buffer where it is refused
pub record Reading (text before after : List ℕ) (answer count line : ℕ) : Type 0 where
  pub words : List ℕ
  pub rest : List ℕ
  pub parsed : Parsed text words rest
  pub answered : answer ≡ read_answer words rest (length before)
  pub counted : count ≡ served (read_answer words rest (length before)) (length words) 0
  pub bad : line ≡ bad_line words rest
  pub buffer : after ≡ served (read_answer words rest (length before)) (sets before 0 words) before
