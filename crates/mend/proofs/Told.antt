-- Each change can be read from the report, and what a call promises.
use Rattle.std.proofs.Common.{◌≡◌, refl, ◌∙◌, Bool, true, false, List, [], ◌∷◌, ◌++◌, ℕ, zero, suc, ◌+◌, ◌*◌, ◌/◌, ◌%◌, ◌<◌, le_of_suc-le-suc, arith, lt-ltb, eqb, length, take, drop, get_or}
use Rattle.std.proofs.Math.Dec.{leb-suc-suc}
use Rattle.common.specs.Choice.{if}
use Rattle.common.specs.Answers.{done}
use Rattle.words.specs.Words.{has_stop}
use Rattle.mend.specs.Rule.{mended, changes_from, stop_change, changes_of, numbers_of, report_after, change_at, empty_change}
use Rattle.mend.specs.Contract.{Mending, Mends}
use Rattle.mend.specs.Passes.{change, change_of, added}
use Rattle.mend.specs.declared.Change.{Change}
use Rattle.mend.specs.declared.Mended.{Mended}
use Rattle.mend.proofs.Word.{mended-below}
use Rattle.mend.proofs.Measuring.{changes-more}
use Rattle.mend.proofs.Again.{mended-again}

-- the two words of each change have 16 bits
abbrev Small : List Change → Type 0
Small [] = Unit {0}
Small (c ∷ cs) = (c.old < 65536) × (c.new < 65536) × Small cs

small-append : (a b : List Change) → Small a → Small b → Small (a ++ b)
small-append [] b s t = t
small-append (c ∷ a) b s t = (s.0, s.1, small-append a b s.2 t)

-- a change after the first
change-next : (x y : ℕ) (report : List ℕ) (i : ℕ) → change_at (x ∷ y ∷ report) (suc i) ≡ change_at report i
unfolding change_at
change-next x y report i =
    let n : suc (suc (length report)) / 2 ≡ suc (length report / 2) = omega arith in
    let p : suc i * 2 ≡ suc (suc (i * 2)) = omega arith in
    let q : suc (suc (i * 2)) + 1 ≡ suc (suc (i * 2 + 1)) = omega arith in
    rw (n, leb-suc-suc, p, q)

-- the first
change-first :
    (c : Change) (report : List ℕ) → c.old < 65536 → c.new < 65536 → change_at (c.place ∷ (c.old * 65536 + c.new) ∷ report) 0 ≡ c
unfolding change_at
change-first c report h k =
    let t = lt-ltb 0 (suc (suc (length report)) / 2) (omega arith) in
    let o : (c.old * 65536 + c.new) / 65536 % 65536 ≡ c.old = omega arith in
    let n : (c.old * 65536 + c.new) % 65536 ≡ c.new = omega arith in
    rw (t, o, n)

-- each of so many
read_back : (cs : List Change) (rest : List ℕ) (i : ℕ) → Small cs → i < length cs → change_at (numbers_of cs ++ rest) i ≡ get_or cs i empty_change
unfolding numbers_of
read_back [] rest i s h = absurd (omega arith)
read_back (c ∷ cs) rest zero s h = change-first c (numbers_of cs ++ rest) s.0 s.1
read_back (c ∷ cs) rest (suc i) s h = change-next _ _ (numbers_of cs ++ rest) i ∙ read_back cs rest i s.2 (le_of_suc-le-suc h)

one-small : (p w : ℕ) → w < 65536 → Small (change_of p w)
one-small p w h = by-test (eqb (mended w) w)
  where
    by-test : (b : Bool) → Small (if b [] (change p w ∷ []))
    by-test true = tt
    by-test false = (h, mended-below w h, tt)

changes-small : (p used : ℕ) (buffer : List ℕ) → ((i : ℕ) → get_or buffer i 0 < 65536) → Small (changes_from p (take used buffer))
unfolding changes_from
changes-small p zero buffer h = tt
changes-small p (suc used) [] h = tt
changes-small p (suc used) (w ∷ ws) h =
    let rest = changes-small (suc p) used ws (λ i. h (suc i)) in
    rw (changes-more p w (take used ws)) (small-append (change_of p w) (changes_from (suc p) (take used ws)) (one-small p w (h 0)) rest)

module _ (buffer : List ℕ) (used : ℕ) (h : (i : ℕ) → get_or buffer i 0 < 65536) where
  all_small : Small (changes_of buffer used)
  unfolding changes_of
  all_small =
      small-append (changes_from 0 (take used buffer)) (stop_change buffer used) (changes-small 0 used buffer h)
      (by-test (has_stop (take used buffer)))
    where
      by-test : (b : Bool) → Small (if b [] (added buffer used ∷ []))
      by-test true = tt
      by-test false = (h used, omega arith, tt)

-- what is promised of a call, whose buffer has words of 16 bits, follows from its equations
pub mends :
    {buffer report buffer' report' : List ℕ} {used : ℕ} {r : Mended} → ((i : ℕ) → get_or buffer i 0 < 65536) →
    Mending buffer used report buffer' report' r → Mends buffer used report buffer' report' r
unfolding report_after
mends {buffer} {report} {report' = report'} {used = used} {r} h m =
    record { mending = m; told = told (eqb r.answer done) refl; again = mended-again m }
  where
    cs : List Change
    cs = changes_of buffer used

    told : (b : Bool) → eqb r.answer done ≡ b → (i : ℕ) → i < r.changes → change_at report' i ≡ get_or cs i empty_change
    told true e i l =
        let n : r.changes ≡ length cs = m.changes ∙ rw e in
        let f : report' ≡ numbers_of cs ++ drop (length (numbers_of cs)) report = m.report-after ∙ rw e in
        rw f (read_back cs (drop (length (numbers_of cs)) report) i (all_small buffer used h) (omega arith))
    told false e i l = absurd (let n : r.changes ≡ 0 = m.changes ∙ rw e in omega arith)
