-- From reset the chip is unlocked and its page mapped, by the bytes that do so; and calls that lend nothing make a run from reset.
use mathlib.Core.Path.{◌≡◌, refl}
use mathlib.Core.Bool.{Bool, true, false}
use mathlib.Core.List.{List, [], ◌∷◌, ◌++◌, map}
use Prim.Native.Nat.{ℕ}
use native.Mathlib.Omega.{arith}
use borrow.Author.Tests.{ltb-true}
use lib.Dec.{ltb}
use lib.ListN.{replicate}
use Rattle.common.specs.Choice.{both}
use Rattle.common.proofs.Tests.{both_true}
use Rattle.editors.specs.Table.{no_table}
use Rattle.lists.specs.Area.{no_lists}
use Rattle.lock.specs.Machine.{key, fed, next_stage}
use Rattle.lock.proofs.Steps.{fresh as fresh-lock}
use Rattle.picture.specs.Sprites.{off_sprite}
use Rattle.sound.specs.declared.Sound.{Sound}
use Rattle.chip.specs.declared.Chip.{Chip}
use Rattle.chip.specs.declared.Editing.{Editing}
use Rattle.chip.specs.Editors.{no_entries}
use Rattle.chip.specs.Reset.{reset_crtc, reset_video, reset_sound, reset_chip}
use Rattle.chip.specs.Ports.{selected, gate_answer, gate_after, gate_written}
use Rattle.runs.specs.World.{World, Buffers, Loan}
use Rattle.runs.specs.Call.{Call, bc, gate, lend, Typed}
use Rattle.runs.specs.Run.{made_over, world_over}
use Rattle.runs.specs.Reached.{Reached}
use Rattle.runs.proofs.Calls.{AllPlaces}
use Rattle.runs.proofs.Runs.{Every, every, each-made, Whole, lends-whole, run-possible}

-- no two different kinds of call are the same
pub differ : {A : Type 0} → ◌≡◌ {A = ℕ} 0 1 → A
differ z = absurd (omega arith)

-- a call whose arguments have its types, and which lends nothing
pub record Good (c : Call) : Type 0 where
  pub typed : Typed c
  pub lends_none : (l : Loan) → c ≡ lend l → ⊥

-- the unlocking bytes, then one that maps the page, then other calls
abbrev pub opens_then : List Call → List Call
opens_then cs = map bc (1 ∷ 0 ∷ key ++ (0 ∷ [])) ++ gate 0xb8 ∷ cs

small : List ℕ → Bool
small [] = true
small (b ∷ bs) = both (ltb b 256) (small bs)

selects_good : (bs : List ℕ) (cs : List Call) → small bs ≡ true → Every Good cs → Every Good (map bc bs ++ cs)
unfolding small
selects_good [] cs h k = k
selects_good (b ∷ bs) cs h k =
    let (i, j) = both_true (ltb b 256) (small bs) h in
    (record { typed = ltb-true b 256 i; lends_none = λ l q. differ cc }, selects_good bs cs j k)

pub opens_good : (cs : List Call) → Every Good cs → Every Good (opens_then cs)
unfolding small
opens_good cs k =
    selects_good (1 ∷ 0 ∷ key ++ (0 ∷ [])) (gate 0xb8 ∷ cs) refl (record { typed = omega arith; lends_none = λ l q. differ cc }, k)

-- ---- what they leave: a chip as after reset but that it is unlocked and the page mapped
abbrev pub mapped_chip : Sound → ℕ → Editing → Chip
mapped_chip s ivr x =
    record {
      lock = record { unlocked = true; stage = 2 };
      gate = record { mode = 0; mapped = true };
      crtc = reset_crtc;
      video = reset_video;
      sprites = replicate 16 off_sprite;
      palette = replicate 64 0;
      sound = s;
      interrupts = record { raster = false; last_raster = false; ivr = ivr };
      editing = x;
    }

abbrev pub none_edited : Editing
none_edited = record { table = no_table; song = no_entries; picture = no_entries; lists = no_lists }

abbrev pub fresh : Buffers → World
fresh l = record { chip = reset_chip; lent = l }

abbrev pub mapped : Buffers → World
mapped l = record { chip = mapped_chip reset_sound 1 none_edited; lent = l }

pub opened : (l : Buffers) (cs : List Call) → world_over (fresh l) (opens_then cs) ≡ world_over (mapped l) cs
unfolding reset_chip selected fed next_stage gate_written gate_after gate_answer
opened l cs = refl

-- ---- a run from reset
pub good_reached :
    (l : Buffers) (cs : List Call) → AllPlaces (fresh l) → Every Good cs → Reached (fresh l) (made_over (fresh l) cs) (world_over (fresh l) cs)
unfolding reset_chip
good_reached l cs places good =
    let whole = every Good Whole (λ c g. lends-whole (fresh l) c (λ m q. absurd (g.lends_none m q))) cs good in
    record {
      fresh = record { chip = refl; tracks = (fresh-lock reset_chip.lock refl).tracks };
      run = run-possible cs (fresh l) places whole;
      typed = each-made Typed cs (fresh l) (every Good Typed (λ c g. g.typed) cs good);
    }
