-- The contract can be met: for every chip and all buffers there is such an answer, with a line so drawn.
use mathlib.Core.Path.{◌≡◌, refl, ◌∙◌, ap}
use mathlib.Core.Bool.{Bool, true, false}
use mathlib.Core.List.{List, [], ◌∷◌}
use Prim.Native.Nat.{ℕ, zero, suc, ◌+◌, ◌<◌, ◌≤◌}
use native.Mathlib.Nat.{zero-add}
use native.Mathlib.Omega.{arith}
use borrow.Author.Tests.{eq-eqb, ne_eqb}
use lib.Dec.{eqb}
use lib.ListN.{length, get_or}
use Rattle.common.specs.Answers.{done, served}
use Rattle.common.specs.Choice.{if}
use Rattle.sound.specs.declared.Accesses.{Accesses}
use Rattle.sound.specs.Line.{sound_report}
use Rattle.sound.proofs.Laws.{line-cycles}
use Rattle.chip.specs.declared.Chip.{Chip}
use Rattle.chip.specs.declared.Stepped.{Stepped}
use Rattle.chip.specs.Step.{stepped, idle_report, StepsBy}
use Rattle.draw.specs.Drawing.{draw_answer, entry_at, Draws}
use Rattle.draw.proofs.Parts.{sizes}
use Rattle.line.specs.Contract.{Shows}
use Rattle.line.proofs.Step.{shows}

-- a line of the chip, in a call with this answer
abbrev pub stepped_by : ℕ → Chip → List ℕ → Accesses → Stepped
stepped_by number c ram a =
    record {
      answer = number;
      chip = served number (stepped ram c) c;
      report = served number (sound_report ram a c.sound) idle_report;
    }

pub steps-by : (number : ℕ) (c : Chip) (ram : List ℕ) (a : Accesses) → StepsBy number c ram a (stepped_by number c ram a)
unfolding idle_report
steps-by number c ram a = record { answer = refl; chip = refl; report = refl; bound = go (eqb number done) }
  where
    go : (t : Bool) → (if t (sound_report ram a c.sound) idle_report).cycles ≤ 34
    go true = line-cycles ram a c.sound
    go false = omega arith

-- a buffer written over, each place by its number
pub over_with : (ℕ → ℕ) → ℕ → List ℕ → List ℕ
over_with f i [] = []
over_with f i (x ∷ xs) = f i ∷ over_with f (suc i) xs

over-length : (f : ℕ → ℕ) (i : ℕ) (l : List ℕ) → length (over_with f i l) ≡ length l
unfolding over_with
over-length f i [] = refl
over-length f i (x ∷ xs) = rw (over-length f (suc i) xs)

over-at : (f : ℕ → ℕ) (i : ℕ) (l : List ℕ) (j : ℕ) → j < length l → get_or (over_with f i l) j 0 ≡ f (i + j)
unfolding over_with
over-at f i [] j h = absurd (omega arith)
over-at f i (x ∷ xs) zero h = let e : i + 0 ≡ i = omega arith in rw e
over-at f i (x ∷ xs) (suc j) h = let e : i + suc j ≡ suc i + j = omega arith in rw e (over-at f (suc i) xs j (omega arith))

module _ (c : Chip) (ram store line : List ℕ) where
  abbrev answer : ℕ
  answer = draw_answer c (length ram) (length store) (length line)

  abbrev drawn : List ℕ
  drawn = served answer (over_with (entry_at c ram store) 0 line) line

  draws : Draws c ram store line drawn answer
  draws =
      record {
        answer = refl;
        drawn = λ z x h. rw (eq-eqb _ _ z) (over-at (entry_at c ram store) 0 line x (omega (arith, (sizes c _ _ _ z).2)) ∙ ap (entry_at c ram store) (zero-add x));
        size = go (eqb answer done);
        refused = λ n. rw (ne_eqb _ _ n);
      }
    where
      go : (t : Bool) → length (if t (over_with (entry_at c ram store) 0 line) line) ≡ length line
      go true = over-length (entry_at c ram store) 0 line
      go false = refl

  pub line-possible : (a : Accesses) → Shows c ram store a line drawn (stepped_by answer c ram a)
  line-possible a = shows draws (steps-by answer c ram a)
