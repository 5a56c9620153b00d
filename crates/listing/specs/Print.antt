-- Request L1, printing: the answer, the bytes written and the buffer.
use Rattle.std.specs.Prelude.{◌≡◌, List, ℕ, leb, length}
use Rattle.std.proofs.lemmas.List.Edits.{sets}
use Rattle.common.specs.Choice.{if}
use Rattle.common.specs.Answers.{done, too_small, served}
use Rattle.listing.specs.Text.{text_of}

-- refused exactly if the text is longer than the buffer
abbrev pub print_answer : List ℕ → ℕ → ℕ
print_answer words room = if (leb (length (text_of words)) room) done too_small

-- printing words into a buffer: what lies beyond the text stays, and all of the buffer where it is refused
pub record Printing (words before after : List ℕ) (answer size : ℕ) : Type 0 where
  pub answered : answer ≡ print_answer words (length before)
  pub sized : size ≡ served (print_answer words (length before)) (length (text_of words)) 0
  pub buffer : after ≡ served (print_answer words (length before)) (sets before 0 (text_of words)) before
