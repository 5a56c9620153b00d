-- The trailer of a file: what its tests say, and what opening answers by it.
use borrow.Author.Tests.{le-leb, lt-leb, leb-true, eq-eqb, ne_eqb, eqb-true}
use native.Mathlib.Omega.{arith}
use mathlib.Core.Path.{◌≡◌, refl, sym, ◌∙◌, ap}
use mathlib.Core.Bool.{Bool, true, false}
use mathlib.Core.List.{List, [], ◌∷◌}
use Rattle.std.specs.List.{ends_with}
use Rattle.std.proofs.Common.{◌&&◌}
use lib.Pointwise.{pointwise}
use Prim.Native.Nat.{ℕ, ◌+◌, ◌-◌, ◌*◌, ◌<◌, ◌≤◌}
use lib.Dec.{leb, eqb}
use lib.ListN.{length, take, drop, length-drop}
use lib.Seq.{drop-drop}
use Rattle.common.specs.Choice.{both}
use Rattle.common.specs.Lists.{begins}
use Rattle.common.proofs.Tests.{both_true}
use Rattle.common.proofs.Begins.{begins-all}
use Rattle.take.specs.Bytes.{number_of}
use Rattle.take.specs.File.{letters}
use Rattle.take.specs.Open.{trailer_of, count_of, offset_of, has_trailer, meets, open_answer}
use Rattle.take.specs.Parts.{Met, Ending}
use Rattle.std.specs.Prelude.{Err}
use Rattle.common.specs.declared.answer.Refusal.TheVariants.{NoTrailer, NotMet}

-- a list that is no longer than another begins with it where it is the same
begins-whole : (xs l : List ℕ) → length l ≤ length xs → pointwise eqb xs l ≡ begins xs l
begins-whole [] [] h = refl
begins-whole [] (y ∷ l) h = absurd (omega arith)
begins-whole (x ∷ xs) [] h = refl
begins-whole (x ∷ xs) (y ∷ l) h = go (eqb x y) (begins-whole xs l (omega arith))
  where
    go : (b : Bool) {p q : Bool} → p ≡ q → (b && p) ≡ both b q
    go true e = e
    go false e = refl

-- the letters are the last four bytes
module _ (file : List ℕ) where
  pub short : length file < 12 → false ≡ has_trailer file
  unfolding has_trailer
  short h = simp (lt-leb 12 (length file) h)

  pub long : has_trailer file ≡ true → 12 ≤ length file
  unfolding has_trailer
  long e = leb-true 12 (length file) (both_true (leb 12 (length file)) _ e).0

  pub last-letters : has_trailer file ≡ true → drop 8 (trailer_of file) ≡ letters
  unfolding has_trailer
  last-letters e =
      let h : length (drop 8 (trailer_of file)) ≤ 4 = simp length-drop (omega (arith, long e)) in
      begins-all letters (drop 8 (trailer_of file)) h (both_true (leb 12 (length file)) _ e).1

  pub tested : {ends : Bool} → 12 ≤ length file → ends ≡ ends_with eqb file letters → ends ≡ has_trailer file
  unfolding has_trailer
  tested h e =
      let at : length file - 12 + 8 ≡ length file - 4 = omega arith in
      let last : drop 8 (trailer_of file) ≡ drop (length file - 4) file = drop-drop 8 (length file - 12) file ∙ ap (λ k. drop k file) at in
      let four : length (drop (length file - 4) file) ≤ 4 = simp length-drop (omega arith) in
      rw (le-leb 12 (length file) h, last, ← (begins-whole letters (drop (length file - 4) file) four)) e

pub offset-after : (file : List ℕ) {n : ℕ} → n ≡ number_of (take 4 (drop (length file - 12 + 4) file)) → n ≡ offset_of file
offset-after file e = e ∙ ap (λ l. number_of (take 4 l)) (sym (drop-drop 4 (length file - 12) file))

module _ (file : List ℕ) where
  pub no_trailer : has_trailer file ≡ false → Ending file (Err NoTrailer)
  no_trailer e = (simp e, simp e)

  module _ (h : has_trailer file ≡ true) where
    pub not_met : meets file ≡ false → Ending file (Err NotMet)
    not_met e = (simp (h, e), simp (h, e))

  module _ {count offset : ℕ} (p : count ≡ count_of file) (q : offset ≡ offset_of file) where
    pub meets_not : (offset + 8 * count ≡ length file - 12 → ⊥) → meets file ≡ false
    unfolding meets
    meets_not n = rw (← p, ← q) (ne_eqb (offset + 8 * count) (length file - 12) n)

    pub meets-is : offset + 8 * count ≡ length file - 12 → meets file ≡ true
    unfolding meets
    meets-is e = rw (← p, ← q) (eq-eqb (offset + 8 * count) (length file - 12) e)

    pub met : has_trailer file ≡ true → meets file ≡ true → Met file count offset
    unfolding meets
    met h m =
        let e = eqb-true (offset_of file + 8 * count_of file) (length file - 12) m in
        record { has = h; meet = m; counted = p; placed = q; sum = omega (arith, long file h) }

-- by the tests of the trailer
pub by-trailer :
    {P : Type 0} (file : List ℕ) → (has_trailer file ≡ false → P) → (has_trailer file ≡ true → meets file ≡ false → P) →
    (Met file (count_of file) (offset_of file) → P) → P
by-trailer {P} file none other whole = go (has_trailer file) (meets file) refl refl
  where
    go : (h m : Bool) → has_trailer file ≡ h → meets file ≡ m → P
    go false m e f = none e
    go true false e f = other e f
    go true true e f = whole (met file refl refl e f)

pub done_met : (file : List ℕ) → open_answer file ≡ 0 → Met file (count_of file) (offset_of file)
unfolding open_answer
done_met file e =
    by-trailer file
    (λ h. absurd (let q = simp h at e in omega arith))
    (λ h m. absurd (let q = simp (h, m) at e in omega arith))
    (λ m. m)
