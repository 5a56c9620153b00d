-- Requests L8 and L9: the calls of every take can be made by hand, on any RAM and store, 256 places of each record and any owners.
use mathlib.Core.Path.{◌≡◌, refl, ◌∙◌}
use mathlib.Core.List.{List, [], ◌∷◌, ◌++◌}
use Prim.Native.Nat.{ℕ, zero, suc, ◌-◌}
use Rattle.editors.specs.declared.Owners.{Owners}
use Rattle.lists.specs.Area.{no_lists}
use Rattle.chip.specs.Editors.{lists_of}
use Rattle.chip.specs.Reset.{reset_chip}
use Rattle.chip.specs.Step.{stepped, counters_stepped}
use Rattle.chip.specs.Reset.{Reset}
use Rattle.runs.specs.Call.{Call, step}
use Rattle.runs.specs.World.{World}
use Rattle.runs.specs.Run.{made_over, world_over}
use Rattle.runs.proofs.Calls.{AllPlaces}
use Rattle.runs.proofs.Runs.{Every, every-joined, Whole, AllWhole, run-possible, calls-over}
use Rattle.take.specs.declared.Record.{Record}
use Rattle.replay.specs.Replay.{fresh as at_reset, call_by, off, lines_then, later, calls_from, replayed}
use Rattle.replay.specs.ByHand.{ByHand}
use Rattle.replay.proofs.Slots.{Unseen, area-stays}
use Rattle.replay.proofs.Asks.{Few, none, one, few}

few-each : (P : Call → Type 0) → ((c : Call) → Whole c → Unseen c → P c) → {cs : List Call} → Few cs → Every P cs
few-each P f none = tt
few-each P f (one {c} l h u) = (f c h u, tt)

-- what holds of the line step, and of the call of each record, holds of each call of a take
module _ (P : Call → Type 0) (line : P (step off)) (f : (c : Call) → Whole c → Unseen c → P c) where
  lines-each : (n : ℕ) (cs : List Call) → Every P cs → Every P (lines_then n cs)
  unfolding lines_then
  lines-each zero cs h = h
  lines-each (suc n) cs h = (line, lines-each n cs h)

  each-call : (o : Owners) (at : ℕ) (rs : List Record) → Every P (calls_from o at rs)
  unfolding calls_from
  each-call o at [] = tt
  each-call o at (r ∷ rs) =
      let more = calls_from o (later at r.line) rs in
      lines-each (r.line - at) (call_by o r ++ more)
      (every-joined P (call_by o r) more (few-each P f (few o r)) (each-call o (later at r.line) rs))

all_whole : (o : Owners) (at : ℕ) (rs : List Record) → AllWhole (calls_from o at rs)
all_whole = each-call Whole tt (λ c h u. h)

pub calls_unseen : (o : Owners) (at : ℕ) (rs : List Record) → Every Unseen (calls_from o at rs)
unfolding stepped counters_stepped
calls_unseen = each-call Unseen (record { reply = λ s w. refl; next = λ s w. refl; area = λ w. refl }) (λ c h u. u)

pub hand_possible :
    (w : World) (o : Owners) (rs : List Record) → Reset w.chip → AllPlaces w →
    ByHand w.lent.ram w.lent.store w.lent.song w.lent.picture o rs (made_over w (calls_from o 0 rs))
    (world_over w (calls_from o 0 rs))
hand_possible w o rs fresh whole =
    record {
      start = w;
      fresh = fresh;
      lent = refl;
      run = run-possible (calls_from o 0 rs) w whole (all_whole o 0 rs);
      calls = calls-over (calls_from o 0 rs) w;
    }

-- a replay ends with no area, as reset gives none
pub reset_no_area : lists_of reset_chip ≡ no_lists
unfolding reset_chip
reset_no_area = refl

pub replayed_no_area :
    (ram store song picture : List ℕ) (o : Owners) (rs : List Record) →
    lists_of (replayed o (at_reset ram store song picture) rs).world.chip ≡ no_lists
unfolding replayed
replayed_no_area ram store song picture o rs =
    area-stays (calls_from o 0 rs) (at_reset ram store song picture).world (calls_unseen o 0 rs) ∙ reset_no_area
