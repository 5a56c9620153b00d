-- 01, "Numbers a call can answer": the form of the calls' promises. A refusal leaves the chip as it was.
use Rattle.std.specs.Prelude.{◌≡◌, ℕ}
use Rattle.common.specs.Answers.{served}
use Rattle.chip.specs.declared.Chip.{Chip}
use Rattle.chip.specs.declared.Answered.{Answered}

-- a call with this number, which served leaves the chip so: c is the chip before
pub record Answers (number : ℕ) (next c : Chip) (r : Answered) : Type 0 where
  pub answer : r.answer ≡ number
  pub chip : r.chip ≡ served number next c
