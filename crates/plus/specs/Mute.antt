-- 02, L13: what mute promises: the chip after it; and over every run that a mute mark moves nothing but the PSG.
use Rattle.std.specs.Prelude.{Bool, ℕ}
use Rattle.chip.specs.declared.Chip.{Chip}
use Rattle.chip.specs.declared.Answered.{Answered}
use Rattle.chip.specs.Promises.{Answers}
use Rattle.chip.specs.Mute.{mute_answer, mute_set}
use Rattle.muting.specs.Muting.{Muting}

pub record MuteTold (c : Chip) (channel : ℕ) (on : Bool) (r : Answered) : Type 0 where
  pub call : Answers (mute_answer channel) (mute_set c channel on) c r
  pub muting : Muting
