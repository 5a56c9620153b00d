-- The calls of a take do not see the places of lists: whatever is lent there, they reply and leave the same. Nor do they change the area.
use mathlib.Core.Path.{◌≡◌, refl, ap, ◌∙◌}
use mathlib.Core.Bool.{Bool, true, false}
use mathlib.Core.List.{List, [], ◌∷◌}
use Prim.Native.Nat.{ℕ}
use lib.Dec.{eqb}
use Rattle.common.specs.Answers.{done}
use Rattle.common.specs.Choice.{if}
use Rattle.chip.specs.Editors.{lists_of}
use Rattle.runs.specs.World.{World, with_room}
use Rattle.runs.specs.Call.{Call, Reply, answer_to, served_world, reply_to, world_after}
use Rattle.runs.specs.Run.{made_over, world_over}
use Rattle.runs.proofs.Runs.{Every}
use Rattle.replay.specs.Replay.{lines_over, counts_over}

-- a world with other places of lists
abbrev pub slotted : List ℕ → World → World
slotted s w = record { chip = w.chip; lent = with_room w.lent w.lent.ram s }

pub record Unseen (c : Call) : Type 0 where
  pub reply : (s : List ℕ) (w : World) → reply_to (slotted s w) c ≡ reply_to w c
  pub next : (s : List ℕ) (w : World) → served_world (slotted s w) c ≡ slotted s (served_world w c)
  pub area : (w : World) → lists_of (served_world w c).chip ≡ lists_of w.chip

after_unseen : (s : List ℕ) (w : World) (c : Call) → Unseen c → world_after (slotted s w) c ≡ slotted s (world_after w c)
after_unseen s w c u =
    let e : answer_to (slotted s w) c ≡ answer_to w c = ap (λ (r : Reply). r.answer) (u.reply s w) in
    ap (λ n. if (eqb n done) (served_world (slotted s w) c) (slotted s w)) e ∙ rw (u.next s w) (go (eqb (answer_to w c) done))
  where
    go : (t : Bool) → if t (slotted s (served_world w c)) (slotted s w) ≡ slotted s (if t (served_world w c) w)
    go true = refl
    go false = refl

-- so a list of them
pub record SameOver (s : List ℕ) (w : World) (cs : List Call) : Type 0 where
  pub world : world_over (slotted s w) cs ≡ slotted s (world_over w cs)
  pub lines : (at : ℕ) → lines_over at (made_over (slotted s w) cs) ≡ lines_over at (made_over w cs)
  pub counts : (before : List ℕ) → counts_over before (made_over (slotted s w) cs) ≡ counts_over before (made_over w cs)

pub all_unseen : (s : List ℕ) (cs : List Call) (w : World) → Every Unseen cs → SameOver s w cs
all_unseen s [] w h = record { world = refl; lines = λ at. refl; counts = λ before. refl }
all_unseen s (c ∷ cs) w h =
    let rest = all_unseen s cs (world_after w c) h.1 in
    let after = after_unseen s w c h.0 in
    record {
      world = rw after rest.world;
      lines = λ at. rw after (rest.lines _);
      counts = λ before. rw (after, ap (λ (r : Reply). r.answer) (h.0.reply s w)) (rest.counts _);
    }

-- and the area is as it was, with its lists
area-after : (w : World) (c : Call) → Unseen c → lists_of (world_after w c).chip ≡ lists_of w.chip
area-after w c u = go (eqb (answer_to w c) done)
  where
    go : (t : Bool) → lists_of (if t (served_world w c) w).chip ≡ lists_of w.chip
    go true = u.area w
    go false = refl

pub area-stays : (cs : List Call) (w : World) → Every Unseen cs → lists_of (world_over w cs).chip ≡ lists_of w.chip
area-stays [] w h = refl
area-stays (c ∷ cs) w h = area-stays cs (world_after w c) h.1 ∙ area-after w c h.0
