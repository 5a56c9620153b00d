-- 02, L10: what mending promises: its equations; and that the words in use afterwards play as those in use before.
use Rattle.std.specs.Prelude.{◌≡◌, List, ℕ, take}
use Rattle.common.specs.Answers.{done}
use Rattle.mend.specs.declared.Mended.{Mended}
use Rattle.mend.specs.Rule.{in_use_of}
use Rattle.mend.specs.Contract.{Mends}
use Rattle.mended_play.specs.Sameness.{Sameness}

pub record MendTold (buffer : List ℕ) (used : ℕ) (report buffer' report' : List ℕ) (r : Mended) : Type 0 where
  pub call : Mends buffer used report buffer' report' r
  pub plays : r.answer ≡ done → Sameness (in_use_of buffer used) (take r.used buffer')
