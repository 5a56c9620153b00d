-- Serves only the code: what holds of the covers of a stretch, by the spans of the sprites on a line.
use Rattle.std.specs.Prelude.{List, ℕ}
use Rattle.overlay.specs.declared.shown.Spans.{Spans}
use Rattle.overlay.specs.declared.Stretch.{Stretch}
use Rattle.overlay.specs.Stretches.{Carried as CarriedBy, Ending as EndingBy, Joined as JoinedBy}

abbrev pub Carried : Spans → List ℕ → ℕ → Stretch → Type 0
Carried spans covers x s = CarriedBy spans.ends spans.starts covers spans.total x s

abbrev pub Ending : Spans → List ℕ → ℕ → Stretch → Type 0
Ending spans covers x s = EndingBy spans.ends covers x s

abbrev pub Joined : Spans → ℕ → ℕ → List ℕ → Stretch → Type 0
Joined spans x end covers s = JoinedBy spans.ends spans.starts spans.total x end covers s
