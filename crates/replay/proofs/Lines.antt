-- Lines stepped one after the other until a number is reached.
use native.Mathlib.Nat.{add-zero}
use native.Mathlib.Omega.{arith}
use borrow.Author.Tests.{eq-eqb}
use mathlib.Core.Path.{◌≡◌, refl, ◌∙◌, ap}
use mathlib.Core.Bool.{Bool}
use mathlib.Core.List.{List, ◌∷◌, ◌++◌}
use Prim.Native.Nat.{ℕ, zero, suc, ◌+◌, ◌-◌, ◌<◌, ◌≤◌}
use lib.ListN.{length}
use Rattle.common.specs.Choice.{either}
use Rattle.editors.specs.declared.Owners.{Owners}
use Rattle.sound.specs.declared.Accesses.{Accesses}
use Rattle.sound.specs.declared.Sound.{Sound}
use Rattle.chip.specs.declared.Crtc.{Crtc}
use Rattle.chip.specs.declared.Chip.{Chip}
use Rattle.chip.specs.declared.line.Moved.{Moved}
use Rattle.chip.specs.Step.{step_answer, counters_stepped, stepped, Moves}
use Rattle.runs.specs.World.{World, with_chip}
use Rattle.runs.specs.Call.{Call, step, answer_to, world_after}
use Rattle.runs.specs.Sort.{on_line}
use Rattle.runs.specs.Run.{world_over}
use Rattle.take.specs.declared.Record.{Record}
use Rattle.replay.specs.Replay.{Progress, call_by, off, lines_then, later, calls_from, refusal_counted, over, replayed}
use Rattle.replay.specs.Parts.{moved, lines_on, answer_in, record_replayed}
use Rattle.replay.proofs.Asks.{Few, none, one, few}

-- RAM of 65,536 bytes is served
pub full-served : (ram : List ℕ) → length ram ≡ 65536 → step_answer ram ≡ 0
unfolding step_answer
full-served ram e = simp (eq-eqb _ _ e)

-- the parts that a served line moves are those of the chip after it
pub parts-moved :
    (ram : List ℕ) (c : Chip) (s : Sound) (k : Crtc) (raster : Bool) (a : Accesses) (r : Moved) →
    Moves s k c.video ram a r →
    moved c r.sound (record { selected = k.selected; registers = k.registers; counters = r.counters }) (either r.raster raster)
    ≡ stepped ram (moved c s k raster)
unfolding stepped counters_stepped
parts-moved ram c s k raster a r m = rw (m.sound, m.counters, m.raster)

module _ (ram : List ℕ) (to at : ℕ) (c : Chip) where
  -- one line is stepped, and one fewer is left
  pub line-more : at < to → lines_on ram (to - (at + 1)) (stepped ram c) ≡ lines_on ram (to - at) c
  unfolding lines_on
  line-more h =
      let e : to - at ≡ suc (to - (at + 1)) = omega arith in
      rw e

  -- none is left
  pub lines_end : to ≤ at → lines_on ram (to - at) c ≡ c
  unfolding lines_on
  lines_end h =
      let e : to - at ≡ 0 = omega arith in
      rw e

-- lines before other calls, on whole RAM: they are stepped, and counted
pub lines-first :
    (n : ℕ) (p : Progress) (cs : List Call) → length p.world.lent.ram ≡ 65536 →
    over p (lines_then n cs)
    ≡ over
    (record {
      world = with_chip p.world (lines_on p.world.lent.ram n p.world.chip);
      lines = p.lines + n;
      counts = p.counts;
    })
    cs
unfolding lines_then lines_on
lines-first zero p cs full = rw (add-zero p.lines)
lines-first (suc n) p cs full =
    let w = p.world in
    let next = with_chip w (stepped w.lent.ram w.chip) in
    let on : world_after w (step off) ≡ next = simp (eq-eqb _ _ (full-served w.lent.ram full)) in
    let e : suc p.lines + n ≡ p.lines + suc n = omega arith in
    ap (λ (x : World). over (record { world = x; lines = suc p.lines; counts = p.counts }) (lines_then n cs)) on
    ∙ lines-first n (record { world = next; lines = suc p.lines; counts = p.counts }) cs full
    ∙ ap
    (λ (m : ℕ). over (record { world = with_chip next (lines_on w.lent.ram n next.chip); lines = m; counts = p.counts }) cs)
    e

-- the call of a record is made, and its answer counted
few-over :
    (p : Progress) (cs more : List Call) → Few cs →
    over p (cs ++ more)
    ≡ over
    (record { world = world_over p.world cs; lines = p.lines; counts = refusal_counted p.counts (answer_in p.world cs) })
    more
few-over p cs more none = refl
few-over p cs more (one {c} e h u) =
    let w = world_after p.world c in
    let next = refusal_counted p.counts (answer_to p.world c) in
    let same :
    ◌≡◌ {A = Progress}
    (record { world = w; lines = on_line (λ a. suc p.lines) p.lines c; counts = on_line (λ a. p.counts) next c })
    (record { world = w; lines = p.lines; counts = next }) =
    rw e in
    ap (λ (x : Progress). over x more) same

-- the records after one, from where it leads
pub replayed-on :
    (o : Owners) (p : Progress) (r : Record) (rs : List Record) → length p.world.lent.ram ≡ 65536 →
    replayed o p (r ∷ rs) ≡ replayed o (record_replayed o p r) rs
unfolding replayed record_replayed calls_from
replayed-on o p r rs full =
    let at = later p.lines r.line in
    let w = with_chip p.world (lines_on p.world.lent.ram (r.line - p.lines) p.world.chip) in
    lines-first (r.line - p.lines) p (call_by o r ++ calls_from o at rs) full
    ∙ few-over (record { world = w; lines = at; counts = p.counts }) (call_by o r) (calls_from o at rs) (few o r)
