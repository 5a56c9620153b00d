-- What a reader hands out, one after the other: over a take its records in order and then none, over any other file none.
use borrow.Author.Tests.{eqb-true, eqb-false, ltb-true, ltb-false}
use native.Mathlib.Nat.{zero-add, suc-add, add_comm}
use native.Mathlib.Omega.{arith}
use mathlib.Core.Path.{◌≡◌, refl, ◌∙◌, ap}
use mathlib.Core.Bool.{Bool, true, false}
use mathlib.Core.List.{List, [], ◌∷◌, ◌++◌, map}
use Prim.Native.Nat.{ℕ, zero, suc, ◌+◌, ◌-◌, ◌*◌, ◌/◌, ◌<◌, ◌≤◌}
use lib.Dec.{eqb, ltb}
use Rattle.std.specs.Prelude.{Option, Some, None, MatchOption}
use Rattle.common.specs.Answers.{served}
use lib.ListN.{length, take, drop, replicate}
use lib.Seq.{drop-drop}
use denote.Ref.{Bor}
use Rattle.take.specs.Record.{record_in}
use Rattle.take.specs.Open.{count_of, offset_of, records_from, records_of, open_answer}
use Rattle.take.proofs.Trailers.{done_met}
use Rattle.take.specs.declared.Record.{Record}
use Rattle.reader.specs.Reader.{found_at, after_at, Advanced, advanced_at, first_place, reader_at, Handed, handed, records_left, Nexted, Nexts, none, one, ReadsTake}
use Rattle.reader.specs.declared.Reader.{Reader}
use Rattle.reader.proofs.Places.{found_end, after_end, found-one, after_one, first_in_take, first_in_none, left_at, left-end, left-one}

-- what stands at a place, at the next one, and so on, so many times
abbrev handed_out : ℕ → List ℕ → ℕ → List (Option Record)
handed_out zero file at = []
handed_out (suc n) file at = found_at file at ∷ handed_out n file (after_at file at)

-- the first of more
fewer : (n m : ℕ) (file : List ℕ) (at : ℕ) → handed_out n file at ≡ take n (handed_out (n + m) file at)
fewer zero m file at = refl
fewer (suc n) m file at = rw suc-add (ap (λ l. found_at file at ∷ l) (fewer n m file (after_at file at)))

-- where no whole record stands any more
only-ends : (m : ℕ) (file : List ℕ) (at : ℕ) → length file < at + 20 → handed_out m file at ≡ replicate m None
only-ends zero file at h = refl
only-ends (suc m) file at h = rw (found_end file at h, after_end file at h, only-ends m file at h)

-- where so many stand up to the trailer
ones_then-ends :
    (n m : ℕ) (file : List ℕ) (at : ℕ) → at + 8 * n + 12 ≡ length file →
    handed_out (n + m) file at ≡ map Some (records_from n (drop at file)) ++ replicate m None
ones_then-ends zero m file at h = rw zero-add (only-ends m file at (omega arith))
ones_then-ends (suc n) m file at h =
    let room : at + 20 ≤ length file = omega arith in
    let rest : at + 8 + 8 * n + 12 ≡ length file = omega arith in
    rw (suc-add, found-one file at room, after_one file at room)
    (ap (λ l. Some (record_in (drop at file)) ∷ l) (ones_then-ends n m file (at + 8) rest ∙ rw (drop-drop 8 at file)))

module _ (file : List ℕ) (n : ℕ) where
  -- over a take: its records in order, and then none
  records-then-ends :
      open_answer file ≡ 0 → handed_out n file (first_place file) ≡ take n (map Some (records_of file) ++ replicate n None)
  unfolding records_of
  records-then-ends d =
      rw (first_in_take file d)
      (fewer n (count_of file) file (offset_of file)
      ∙ rw (add_comm n (count_of file)) (ap (take n) (ones_then-ends (count_of file) n file (offset_of file) (done_met file d).sum)))

  -- over a file that does not open: none at once
  ends-at-once : (open_answer file ≡ 0 → ⊥) → handed_out n file (first_place file) ≡ replicate n None
  ends-at-once no-take = rw (first_in_none file no-take) (only-ends n file (length file) (omega arith))

-- calls of `next`, each known by its contract alone, hand out what stands at the places
nexts_hand_out : {r : Reader} {fs : List (Option Record)} → Nexts r fs → fs ≡ handed_out (length fs) r.file.now r.at
nexts_hand_out none = refl
nexts_hand_out (one {r} {h} {fs} e s) =
    ap (λ l. h.found ∷ l) (nexts_hand_out s)
    ∙ ap (λ (x : Handed). x.found ∷ handed_out (length fs) x.reader.file.now x.reader.at) e

-- what a reader at the first place has left: the records of a take, none of a file that does not open
left-first : (file : List ℕ) → left_at file (first_place file) ≡ served (open_answer file) (records_of file) []
unfolding records_of
left-first file = go (eqb (open_answer file) 0) refl
  where
    go : (b : Bool) → eqb (open_answer file) 0 ≡ b → left_at file (first_place file) ≡ served (open_answer file) (records_of file) []
    go true e =
        let d : open_answer file ≡ 0 = eqb-true (open_answer file) 0 e in
        let n : (length file - (offset_of file + 12)) / 8 ≡ count_of file = omega (arith, (done_met file d).sum) in
        rw (first_in_take file d) (rw n (simp e))
    go false e =
        rw (first_in_none file (eqb-false (open_answer file) 0 e)) (left-end file (length file) (omega arith) ∙ simp e)

-- a reader at a take's first record, or at the end of a file that does not open
pub reads-take : (f : Bor (List ℕ)) → ReadsTake f (reader_at f (first_place f.now))
unfolding records_left
reads-take f =
    record {
      reader = refl;
      hands_out =
          record {
            records = λ d {fs} s. nexts_hand_out s ∙ records-then-ends f.now (length fs) d;
            ends = λ n {fs} s. nexts_hand_out s ∙ ends-at-once f.now (length fs) n;
          };
      left = left-first f.now;
    }

-- a call hands out the first of what is left, and leaves the others
yields-at :
    (file : List ℕ) (at : ℕ) →
    MatchOption (found_at file at) ((left_at file at ≡ []) × (left_at file (after_at file at) ≡ []))
    (λ entry. left_at file at ≡ entry ∷ left_at file (after_at file at))
yields-at file at = go (ltb (length file) (at + 20)) refl
  where
    go :
        (b : Bool) → ltb (length file) (at + 20) ≡ b →
        MatchOption (found_at file at) ((left_at file at ≡ []) × (left_at file (after_at file at) ≡ []))
        (λ entry. left_at file at ≡ entry ∷ left_at file (after_at file at))
    go true e =
        let h : length file < at + 20 = ltb-true _ _ e in
        rw (found_end file at h, after_end file at h) (left-end file at h, left-end file at h)
    go false e =
        let h : at + 20 ≤ length file = ltb-false _ _ e in
        rw (found-one file at h, after_one file at h) (left-one file at h)

pub nexted :
    (file : Bor (List ℕ)) (at : ℕ) (s : Advanced) → s ≡ advanced_at file.now at → Nexted (reader_at file at) s.found (reader_at file s.at)
unfolding records_left
nexted file at s e = (rw e (yields-at file.now at), ap (λ (x : Advanced). record { reader = reader_at file x.at; found = x.found }) e)

-- and there are such calls, as many as one likes
pub record Asked (r : Reader) (n : ℕ) : Type 0 where
  pub out : List (Option Record)
  pub calls : Nexts r out
  pub many : length out ≡ n

pub asked : (n : ℕ) (r : Reader) → Asked r n
asked zero r = record { out = []; calls = none; many = refl }
asked (suc n) r =
    let rest = asked n (handed r).reader in
    record { out = (handed r).found ∷ rest.out; calls = one refl rest.calls; many = ap suc rest.many }
