-- 01, "Sound": a run is any list of the calls. Every list of calls whose served ones meet the premises is that of a run.
use mathlib.Core.Path.{◌≡◌}
use mathlib.Core.List.{List, [], ◌∷◌}
use Prim.Native.Nat.{ℕ, ◌<◌}
use borrow.Author.Tests.{eq-eqb}
use Rattle.common.specs.Answers.{done}
use Rattle.chip.specs.Channels.{LeftAlone}
use Rattle.runs.specs.World.{World}
use Rattle.runs.specs.Call.{Call, answer_to, world_after}
use Rattle.runs.specs.Sort.{sort_of, on_line}
use Rattle.runs.specs.Run.{Each, made_over}
use Rattle.runs.proofs.Views.{on_line_lem}
use Rattle.forecast.specs.Demand.{channel, Spares, Lent, Allowed}
use Rattle.forecast.proofs.Spares.{effect}

-- the premises by the arguments, from this world on: a served line step is lent the words of the list, and another served call spares
-- the channel
abbrev pub Premises : ℕ → List ℕ → ℕ → World → List Call → Type 0
Premises n ram start w [] = Unit {0}
Premises n ram start w (c ∷ cs) =
    (answer_to w c ≡ done → on_line (λ a. Lent ram start w.lent.ram) (Spares n w (sort_of c)) c)
    × Premises n ram start (world_after w c) cs

pub any_list :
    (n : ℕ) (ram : List ℕ) (start : ℕ) → n < 3 → (cs : List Call) (w : World) → Premises n ram start w cs →
    Each (Allowed n ram start) (made_over w cs)
any_list n ram start h [] w ok = tt
any_list n ram start h (c ∷ cs) w ok = (
  λ z.
      on_line_lem w (λ a. Lent ram start w.lent.ram) (Spares n w (sort_of c)) (LeftAlone (channel w.chip n) (channel (world_after w c).chip n)) c
      (λ s. rw (eq-eqb _ _ z) ((effect n h w c).alone s)) (ok.0 z),
  any_list n ram start h cs (world_after w c) ok.1,
)
