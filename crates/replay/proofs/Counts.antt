-- Every refusal number has a place, and a count rises by 1 at most.
use native.Mathlib.Omega.{arith}
use mathlib.Core.Bool.{Bool, true, false}
use mathlib.Core.List.{List, [], ◌∷◌}
use Prim.Native.Nat.{ℕ, ◌+◌, ◌<◌, ◌≤◌}
use lib.Dec.{eqb}
use lib.ListN.{get_or, set}
use Rattle.common.specs.Answers.{done}
use Rattle.common.specs.Choice.{if}
use Rattle.common.proofs.Lists.{after-set}
use Rattle.runs.specs.World.{World}
use Rattle.runs.specs.Call.{Call}
use Rattle.runs.proofs.Numbers.{answer-small}
use Rattle.replay.specs.Replay.{refusal_counted}
use Rattle.replay.specs.Parts.{answer_in}

pub place-small : (w : World) (cs : List Call) → answer_in w cs < 24
place-small w [] = omega arith
place-small w (c ∷ cs) = answer-small w c

-- a count after one more answer
pub count-more : (counts : List ℕ) (answer i : ℕ) → get_or (refusal_counted counts answer) i 0 ≤ get_or counts i 0 + 1
count-more counts answer i = go (eqb answer done)
  where
    go : (t : Bool) → get_or (if t counts (set counts answer (get_or counts answer 0 + 1))) i 0 ≤ get_or counts i 0 + 1
    go true = omega arith
    go false =
        after-set (λ n. n ≤ get_or counts i 0 + 1) counts answer i (get_or counts answer 0 + 1) 0 (omega arith) (λ e. rw e (omega arith))
