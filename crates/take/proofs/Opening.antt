-- What opening gives by the trailer and the records, the comment, and the record of a number.
use borrow.Author.Tests.{le-leb, lt-leb, ne_eqb, eqb-true}
use native.Mathlib.Omega.{arith}
use mathlib.Core.Path.{◌≡◌, refl, sym, ◌∙◌, ap}
use mathlib.Core.Bool.{Bool, true, false}
use mathlib.Core.List.{List}
use Prim.Native.Nat.{ℕ, zero, suc, ◌+◌, ◌-◌, ◌*◌, ◌<◌, ◌≤◌}
use lib.Dec.{eqb}
use lib.ListN.{length, get_or, take, drop}
use lib.Seq.{drop-drop}
use Rattle.take.specs.Record.{record_in, first_bad}
use Rattle.take.specs.declared.Record.{Record}
use Rattle.take.specs.Open.{count_of, offset_of, records_from, records_of, open_answer, Opening, comment_of, record_answer, no_record, ReadsRecord}
use Rattle.take.specs.Parts.{FirstBad, Met, Ending}
use Rattle.std.specs.Prelude.{None, Some, Err}
use Rattle.common.specs.Refusals.{number}
use Rattle.common.specs.declared.answer.Refusal.{Refusal}
use Rattle.take.proofs.Trailers.{by-trailer, done_met}

-- opening, by what the trailer answers
pub refused : {file : List ℕ} (refusal : Refusal) → Ending file (Err refusal) → Opening file (number refusal) 0 0 0
unfolding open_answer
refused {file} refusal e =
    by-trailer file
    (λ h. record { answered = sym e.0 ∙ simp h; bad_number = simp h; counted = simp h; placed = simp h })
    (λ h m. record { answered = sym e.0 ∙ simp (h, m); bad_number = simp (h, m); counted = simp (h, m); placed = simp (h, m) })
    (λ m. absurd (let q = simp (m.has, m.meet) at e.1 in let z : ◌≡◌ {A = ℕ} 0 1 = cc in omega arith))

module _ {file : List ℕ} {count offset : ℕ} (m : Met file count offset) where
  all-of : records_from count (drop offset file) ≡ records_of file
  unfolding records_of
  all-of = rw (← m.counted, ← m.placed)

  pub opened-bad : (bad : ℕ) → FirstBad (records_from count (drop offset file)) (Some bad) → Opening file 13 bad 0 0
  unfolding open_answer
  opened-bad bad b =
      let first : first_bad (records_of file) ≡ bad = rw (← all-of) b.0 in
      let t : eqb bad 0 ≡ false = ne_eqb bad 0 b.1 in
      record {
        answered = simp (m.has, m.meet, first, t);
        bad_number = simp (m.has, m.meet, first, t);
        counted = simp (m.has, m.meet, first, t);
        placed = simp (m.has, m.meet, first, t);
      }

  pub opened : FirstBad (records_from count (drop offset file)) None → Opening file 0 0 count offset
  unfolding open_answer
  opened b =
      let first : first_bad (records_of file) ≡ 0 = rw (← all-of) b in
      record {
        answered = simp (m.has, m.meet, first);
        bad_number = simp (m.has, m.meet, first);
        counted = simp (m.has, m.meet, first) m.counted;
        placed = simp (m.has, m.meet, first) m.placed;
      }

-- what opening gives as the offset
module _ {file : List ℕ} {answer bad count offset : ℕ} (o : Opening file answer bad count offset) where
  by_answer : {P : Type 0} → (open_answer file ≡ 0 → offset ≡ offset_of file → P) → (eqb (open_answer file) 0 ≡ false → offset ≡ 0 → P) → P
  by_answer {P} whole none = go (eqb (open_answer file) 0) refl
    where
      go : (b : Bool) → eqb (open_answer file) 0 ≡ b → P
      go true e = whole (eqb-true (open_answer file) 0 e) (simp e at o.placed)
      go false e = none e (simp e at o.placed)

  pub offset_in : offset ≤ length file
  offset_in = by_answer (λ d e. omega (arith, (done_met file d).sum)) (λ d e. omega arith)

  pub comment_is : take offset file ≡ comment_of file
  unfolding comment_of
  comment_is = by_answer (λ d e. simp (d, e)) (λ d e. simp (d, e))

-- the record of a number: refused, it is all 0
module _ {file : List ℕ} (refusal : Refusal) (e : Ending file (Err refusal)) where
  pub none_read : (n : ℕ) → ReadsRecord file n (number refusal) no_record
  unfolding record_answer
  none_read n = record { answered = sym e.0 ∙ simp e.1; read = simp e.1 }

records-at : (i n : ℕ) (bs : List ℕ) → i < n → get_or (records_from n bs) i no_record ≡ record_in (drop (8 * i) bs)
records-at i zero bs h = absurd (omega arith)
records-at zero (suc n) bs h = refl
records-at (suc i) (suc n) bs h =
    let e : 8 + 8 * i ≡ 8 * suc i = omega arith in
    records-at i n (drop 8 bs) (omega arith) ∙ ap record_in (drop-drop (8 * i) 8 bs ∙ ap (λ k. drop k bs) e)

pub read-at :
    (file : List ℕ) (offset count i : ℕ) → i < count →
    get_or (records_from count (drop offset file)) i no_record ≡ record_in (drop (offset + 8 * i) file)
read-at file offset count i h = records-at i count (drop offset file) h ∙ ap record_in (drop-drop (8 * i) offset file)

pub length_from : (n : ℕ) (bs : List ℕ) → length (records_from n bs) ≡ n
length_from zero bs = refl
length_from (suc n) bs = ap suc (length_from n (drop 8 bs))

module _ {file : List ℕ} {count offset : ℕ} (m : Met file count offset) (n : ℕ) where
  pub number_0 : n ≡ 0 → ReadsRecord file n 3 no_record
  unfolding record_answer
  number_0 z = let t = lt-leb 1 n (omega arith) in record { answered = simp (m.has, m.meet, t); read = simp (m.has, m.meet, t) }

  pub number_past : count < n → ReadsRecord file n 3 no_record
  unfolding record_answer
  number_past h =
      let a = le-leb 1 n (omega arith) in
      let b = lt-leb n (count_of file) (omega (arith, m.counted)) in
      record { answered = simp (m.has, m.meet, a, b); read = simp (m.has, m.meet, a, b) }

  pub one-read : {r : Record} → (n ≡ 0 → ⊥) → n ≤ count → r ≡ record_in (drop (offset + 8 * (n - 1)) file) → ReadsRecord file n 0 r
  unfolding record_answer records_of
  one-read {r} z h e =
      let a = le-leb 1 n (omega arith) in
      let b = le-leb n (count_of file) (omega (arith, m.counted)) in
      let q : r ≡ get_or (records_from (count_of file) (drop (offset_of file) file)) (n - 1) no_record =
      e ∙ sym (read-at file offset count (n - 1) (omega arith)) ∙ rw (m.counted, m.placed) in
      record { answered = simp (m.has, m.meet, a, b); read = simp (m.has, m.meet, a, b) q }
