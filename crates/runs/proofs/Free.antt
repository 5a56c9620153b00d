-- Calls of which each gets the chip that the last one left, and any buffers at all: such calls are a run too, in which the host lends
-- before each of them.
use mathlib.Core.Path.{◌≡◌, refl}
use mathlib.Core.List.{List, [], ◌∷◌}
use Rattle.common.specs.Answers.{done}
use Rattle.editors.specs.declared.Editor.TheVariants.{Song, Picture}
use Rattle.chip.specs.declared.Chip.{Chip}
use Rattle.runs.specs.World.{Buffers, World, Loan, lent_ram, lent_store, lent_places, lent_slots, lent_by}
use Rattle.runs.specs.Call.{Call, lend, Reply, number}
use Rattle.runs.specs.Run as run
use Rattle.runs.specs.Run.{Made, Makes, Run, Each}

abbrev pub with : Chip → Buffers → World
with c b = record { chip = c; lent = b }

pub data Free : Chip → List Made → Chip → Type 0 where
  ended : {c : Chip} → Free c [] c
  on :
      {c d : Chip} {b : Buffers} {k : Call} {r : Reply} {v : World} {es : List Made} → Makes (with c b) k r v → Free v.chip es d →
      Free c (record { before = with c b; asks = k; reply = r; after = v } ∷ es) d

-- the host lends these buffers, one after the other
abbrev pub lending : World → Loan → Made
lending w l = record { before = w; asks = lend l; reply = number done; after = with w.chip (lent_by l w.lent) }

abbrev pub loans_of : Buffers → List Loan
loans_of b = lent_ram b.ram ∷ lent_store b.store ∷ lent_places Song b.song ∷ lent_places Picture b.picture ∷ lent_slots b.slots ∷ []

abbrev pub lending_all : World → List Loan → List Made → List Made
lending_all w [] rest = rest
lending_all w (l ∷ ls) rest = lending w l ∷ lending_all (with w.chip (lent_by l w.lent)) ls rest

-- the same calls, with what is lent before each
unfoldable pub lent : World → List Made → List Made
lent w [] = []
lent w (e ∷ es) = lending_all w (loans_of e.before.lent) (e ∷ lent e.after es)

pub record Lends (w : World) (es : List Made) (d : Chip) : Type 0 where
  pub last : World
  pub run : Run w (lent w es) last
  pub chip : last.chip ≡ d

pub lends : {c d : Chip} {es : List Made} (b : Buffers) → Free c es d → Lends (with c b) es d
unfolding lent
lends b ended = record { last = _; run = run.ended; chip = refl }
lends b (on {c} {b = here} {v = v} k rest) =
    let l = lends v.lent rest in
    record {
      last = l.last;
      run =
          run.on (run.lend (lent_ram here.ram))
          (run.on (run.lend (lent_store here.store))
          (run.on (run.lend (lent_places Song here.song))
          (run.on (run.lend (lent_places Picture here.picture))
          (run.on (run.lend (lent_slots here.slots)) (run.on k l.run)))));
      chip = l.chip;
    }

-- what holds of each call, and of lending, holds of each call of the run
pub each_lent :
    (P : Made → Type 0) → ((w : World) (l : Loan) → P (lending w l)) → (es : List Made) (w : World) → Each P es → Each P (lent w es)
unfolding lent
each_lent P f [] w h = tt
each_lent P f (e ∷ es) w h =
    (f _ _, (f _ _, (f _ _, (f _ _, (f _ _, (h.0, each_lent P f es e.after h.1))))))
