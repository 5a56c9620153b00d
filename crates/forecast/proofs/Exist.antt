-- Demand 3 is not empty: from every chip outside mode 3 there are runs of every length, and there are such chips with ready channels.
use mathlib.Core.Path.{◌≡◌, refl, ap}
use mathlib.Core.Bool.{true, false}
use mathlib.Core.List.{List, [], ◌∷◌, map}
use Prim.Native.Nat.{ℕ, zero, suc, ◌<◌}
use native.Mathlib.Omega.{arith}
use borrow.Author.Tests.{eq-eqb, ne_eqb}
use lib.ListN.{length, replicate}
use Rattle.sound.specs.declared.Accesses.{Accesses}
use Rattle.sound.specs.declared.Channel.{Channel}
use Rattle.chip.specs.declared.Chip.{Chip}
use Rattle.chip.specs.Reset.{reset_chip}
use Rattle.chip.specs.State.{with_channels}
use Rattle.chip.specs.Step.{stepped, counters_stepped}
use Rattle.draw.specs.Drawing.{draw_answer}
use Rattle.runs.specs.World.{World}
use Rattle.runs.specs.Call.{Call, line, answer_to, served_world}
use Rattle.runs.specs.Run.{Made, Run, Each, made_over, world_over}
use Rattle.runs.proofs.Calls.{AllPlaces}
use Rattle.runs.proofs.Runs.{AllWhole, run-possible}
use Rattle.forecast.specs.Rule.{even}
use Rattle.forecast.specs.Demand.{channel, Ready, LineStep, steps_of, Allowed}

-- the line's call into 640 bytes
abbrev pub line_of : Accesses → Call
line_of a = line a 640

-- it is served on a world with RAM and pixel store of their lengths, outside mode 3
pub record Shown (w : World) : Type 0 where
  pub ram : length w.lent.ram ≡ 65536
  pub store : length w.lent.store ≡ 4096
  pub mode : w.chip.gate.mode ≡ 3 → ⊥

pub shown-served : (w : World) (a : Accesses) → Shown w → answer_to w (line_of a) ≡ 0
unfolding draw_answer
shown-served w a s = simp (eq-eqb _ _ s.ram, eq-eqb _ _ s.store, ne_eqb _ _ s.mode)

-- and so is the world after it
pub still-shown : (w : World) (a : Accesses) → Shown w → Shown (served_world w (line_of a))
unfolding stepped counters_stepped
still-shown w a s = record { ram = s.ram; store = s.store; mode = s.mode }

-- runs of every length, whatever the processor does on each line, on the one RAM
all_lines :
    (n : ℕ) (ram : List ℕ) (start : ℕ) (accesses : List Accesses) (w : World) → w.lent.ram ≡ ram → Shown w →
    Each (Allowed n ram start) (made_over w (map line_of accesses)) × (map (λ (s : LineStep). s.accesses) (steps_of (made_over w (map line_of accesses))) ≡ accesses)
all_lines n ram start [] w lent s = (tt, refl)
all_lines n ram start (a ∷ as') w lent s =
    let z = shown-served w a s in
    let rest = all_lines n ram start as' (served_world w (line_of a)) lent (still-shown w a s) in (
      (λ y. record { words = λ i l. rw lent }, rw (eq-eqb _ _ z) rest.0),
      rw (eq-eqb _ _ z) (ap (λ (x : List Accesses). a ∷ x) rest.1),
    )

pub no_lend : (as' : List Accesses) → AllWhole (map line_of as')
no_lend [] = tt
no_lend (a ∷ as') = (tt, no_lend as')

pub runs_exist :
    (n : ℕ) (start : ℕ) (accesses : List Accesses) (w : World) → Shown w → AllPlaces w →
    (log : List Made) × Run w log (world_over w (map line_of accesses)) × Each (Allowed n w.lent.ram start) log
    × (map (λ (s : LineStep). s.accesses) (steps_of log) ≡ accesses)
runs_exist n start accesses w shown whole =
    let all = all_lines n w.lent.ram start accesses w refl shown in
    (made_over w (map line_of accesses), run-possible (map line_of accesses) w whole (no_lend accesses), all.0, all.1)

-- a channel that is ready, and a chip with all three so
abbrev ready_channel : ℕ → ℕ → Channel
ready_channel start prescale =
    record {
      enabled = true;
      interrupt = false;
      address = even start;
      prescale = prescale;
      pause = 0;
      count = 0;
      counter = 0;
      mark = 0;
      muted = false;
    }

pub ready-chip : (start prescale : ℕ) → (c : Chip) × ((n : ℕ) → n < 3 → Ready start prescale (channel c n)) × (c.gate.mode ≡ 0)
unfolding reset_chip
ready-chip start prescale = (with_channels reset_chip (replicate 3 (ready_channel start prescale)), each, refl)
  where
    ready : Ready start prescale (ready_channel start prescale)
    ready = record { enabled = refl; address = refl; divides = refl; pause = refl; counter = refl }

    each : (n : ℕ) → n < 3 → Ready start prescale (channel (with_channels reset_chip (replicate 3 (ready_channel start prescale))) n)
    each zero h = ready
    each (suc zero) h = ready
    each (suc (suc zero)) h = ready
    each (suc (suc (suc n))) h = absurd (omega arith)
