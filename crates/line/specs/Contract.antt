-- 02, L11: the current line is drawn, and then the chip stepped; refused, neither is done.
use Rattle.std.specs.Prelude.{◌≡◌, List, ℕ, length}
use Rattle.common.specs.Answers.{done}
use Rattle.sound.specs.declared.Accesses.{Accesses}
use Rattle.chip.specs.declared.Chip.{Chip}
use Rattle.chip.specs.declared.Stepped.{Stepped}
use Rattle.chip.specs.Step.{StepsBy, Steps}
use Rattle.draw.specs.Drawing.{draw_answer, Draws}

-- the answer is drawing's: 1 for RAM, pixel store or line of another length, then 4 for mode 3
abbrev pub line_answer : Chip → List ℕ → List ℕ → ℕ → ℕ
line_answer c ram store line = draw_answer c (length ram) (length store) line

-- the line step on the same chip and RAM is served too, and leaves the same chip with the same report
pub record AsStepped (r s : Stepped) : Type 0 where
  pub answer : s.answer ≡ done
  pub chip : r.chip ≡ s.chip
  pub report : r.report ≡ s.report

-- what the call promises: the entries of the line are drawn of the chip before it; chip and report are those of the line; refused, the
-- line and the chip are as they were, no cycles are told and each channel as sitting out; no line costs over 34 cycles. A served call does
-- to the chip what the line step does; of that no more is known than its contract
pub record Shows (c : Chip) (ram store : List ℕ) (a : Accesses) (line line' : List ℕ) (r : Stepped) : Type 0 where
  pub draws : Draws c ram store line line' r.answer
  pub steps : StepsBy (line_answer c ram store (length line)) c ram a r
  pub as_stepped : r.answer ≡ done → {s : Stepped} → Steps c ram a s → AsStepped r s
