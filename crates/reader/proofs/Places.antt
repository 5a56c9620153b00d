-- What stands at a place of a file, by the room from there on, and the place of a take's first record.
use borrow.Author.Tests.{lt-ltb, le-ltb, ne_eqb}
use native.Mathlib.Omega.{arith}
use mathlib.Core.Path.{◌≡◌, ◌∙◌}
use mathlib.Core.List.{List, [], ◌∷◌}
use Prim.Native.Nat.{ℕ, suc, ◌+◌, ◌-◌, ◌/◌, ◌<◌, ◌≤◌}
use lib.ListN.{length, drop}
use lib.Seq.{drop-drop}
use Rattle.take.specs.Record.{record_in}
use Rattle.take.specs.Open.{offset_of, record_from, records_from, open_answer}
use Rattle.take.specs.declared.Record.{Record}
use Rattle.reader.specs.Reader.{found_at, after_at, first_place}
use Rattle.std.specs.Prelude.{Some, None}

module _ (file : List ℕ) (at : ℕ) where
  module _ (h : length file < at + 20) where
    pub found_end : found_at file at ≡ None
    unfolding found_at
    found_end = simp (lt-ltb (length file) (at + 20) h)

    pub after_end : after_at file at ≡ at
    unfolding after_at
    after_end = simp (lt-ltb (length file) (at + 20) h)

  module _ (h : at + 20 ≤ length file) where
    pub found_here : found_at file at ≡ Some (record_from file at)
    unfolding found_at
    found_here = simp (le-ltb (length file) (at + 20) h)

    pub after_one : after_at file at ≡ at + 8
    unfolding after_at
    after_one = simp (le-ltb (length file) (at + 20) h)

    pub found-one : found_at file at ≡ Some (record_in (drop at file))
    unfolding record_from
    found-one =
        let room : at + 8 ≤ length file = omega arith in
        found_here ∙ simp (le-ltb (length file) (at + 8) room)

module _ (file : List ℕ) where
  pub first_in_take : open_answer file ≡ 0 → first_place file ≡ offset_of file
  unfolding first_place
  first_in_take d = simp d

  pub first_in_none : (open_answer file ≡ 0 → ⊥) → first_place file ≡ length file
  unfolding first_place
  first_in_none n = simp (ne_eqb (open_answer file) 0 n)

-- the records that a reader has left: none at the end, else the one there and those after it
module _ (file : List ℕ) (at : ℕ) where
  abbrev pub left_at : List Record
  left_at = records_from ((length file - (at + 12)) / 8) (drop at file)

  pub left-end : length file < at + 20 → left_at ≡ []
  left-end h =
      let e : (length file - (at + 12)) / 8 ≡ 0 = omega arith in
      rw e

  pub left-one : at + 20 ≤ length file → left_at ≡ record_in (drop at file) ∷ records_from ((length file - (at + 8 + 12)) / 8) (drop (at + 8) file)
  left-one h =
      let e : (length file - (at + 12)) / 8 ≡ suc ((length file - (at + 8 + 12)) / 8) = omega arith in
      rw (e, ← (drop-drop 8 at file))
