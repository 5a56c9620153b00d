-- Requests L8 and L9: the calls of a take made by hand, each known by its contract alone, leave what playing its records leaves.
use mathlib.Core.Path.{◌≡◌, ◌∙◌, ap}
use mathlib.Core.List.{List, []}
use Rattle.editors.specs.declared.Owners.{Owners}
use Rattle.take.specs.declared.Record.{Record}
use Rattle.runs.specs.World.{World, world_of}
use Rattle.runs.specs.Run.{Made, made_over, world_over}
use Rattle.runs.proofs.Runs.{comes}
use Rattle.replay.specs.declared.Replayed.{Replayed}
use Rattle.replay.specs.Replay.{Progress, fresh, calls_from, replayed}
use Rattle.replay.specs.ByHand.{ByHand, AsByHand}
use Prim.Native.Nat.{ℕ}
use Rattle.replay.proofs.Slots.{slotted, all_unseen}
use Rattle.replay.proofs.Possible.{calls_unseen}

pub as_by_hand :
    {ram store song picture store' song' picture' : List ℕ} {o : Owners} {rs : List Record} {r : Replayed} {log : List Made} {w : World} →
    record { world = world_of r.chip ram store' song' picture' []; lines = r.lines; counts = r.counts }
    ≡ replayed o (fresh ram store song picture) rs →
    ByHand ram store song picture o rs log w → AsByHand log w store' song' picture' r
unfolding replayed
as_by_hand {ram} {store} {song} {picture} {o = o} {rs} {r} {log} {w} s h =
    let start = slotted h.start.lent.slots (fresh ram store song picture).world in
    let same = all_unseen h.start.lent.slots (calls_from o 0 rs) (fresh ram store song picture).world (calls_unseen o 0 rs) in
    let begins : h.start ≡ start = h.lent ∙ rw h.fresh.chip in
    let log_is : log ≡ made_over start (calls_from o 0 rs) =
    (comes h.run).log_is ∙ ap (made_over h.start) h.calls ∙ ap (λ (x : World). made_over x (calls_from o 0 rs)) begins in
    let world_is : w ≡ world_over start (calls_from o 0 rs) =
    (comes h.run).world_is ∙ ap (world_over h.start) h.calls ∙ ap (λ (x : World). world_over x (calls_from o 0 rs)) begins in
    record {
      chip = rw (world_is, same.world) (ap (λ (q : Progress). q.world.chip) s);
      lines = rw (log_is, same.lines) (ap (λ (q : Progress). q.lines) s);
      counts = rw (log_is, same.counts) (ap (λ (q : Progress). q.counts) s);
      store-after = rw (world_is, same.world) (ap (λ (q : Progress). q.world.lent.store) s);
      song-after = rw (world_is, same.world) (ap (λ (q : Progress). q.world.lent.song) s);
      picture-after = rw (world_is, same.world) (ap (λ (q : Progress). q.world.lent.picture) s);
    }
