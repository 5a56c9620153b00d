-- The first bad record of some by one more of them.
use native.Mathlib.Numerals.{add-one}
use native.Mathlib.Omega.{arith}
use mathlib.Core.Path.{◌≡◌, refl}
use mathlib.Core.Bool.{Bool, true, false}
use mathlib.Core.List.{List, ◌∷◌}
use Prim.Native.Nat.{ℕ, ◌+◌, ◌<◌, ◌≤◌}
use lib.ListN.{length, drop, drop_of_length-le}
use lib.Seq.{drop-cons}
use Rattle.std.proofs.Common.{None, Some}
use Rattle.take.specs.Record.{bad, first_bad, first_bad_after}
use Rattle.take.specs.Open.{no_record}
use Rattle.take.specs.Parts.{Given, FirstBad}
use Rattle.take.specs.declared.Record.{Record}

-- the first bad record of all is that of those that are left, after so many, the last with this line number
pub record Searched (all : List Record) (count before : ℕ) (left : List Record) : Type 0 where
  pub same : first_bad all ≡ first_bad_after count before left

pub searched_none : (all : List Record) → Searched all 0 0 all
unfolding first_bad
searched_none all = record { same = refl }

module _ {gives : ℕ → Record → Type 0} {count i before : ℕ} {all : List Record} (g : Given gives count all) (s : Searched all i before (drop i all)) where
  -- the record here, and those after it
  here : {r : Record} → i < count → gives i r → drop i all ≡ r ∷ drop (i + 1) all
  here h e = rw (add-one, g.each i _ h e) (drop-cons all i no_record (omega (arith, g.many)))

  module _ {r : Record} (h : i < count) (e : gives i r) {test : Bool} (t : test ≡ bad before r) where
    pub found : test ≡ true → FirstBad all (Some (i + 1))
    found b = (rw (s.same, here h e, ← t, b, add-one), λ z. omega arith)

    pub passed : test ≡ false → Searched all (i + 1) r.line (drop (i + 1) all)
    passed b = record { same = rw (s.same, here h e, ← t, b, add-one) }

  pub none : count ≤ i → FirstBad all None
  none h =
      let past : length all ≤ i = omega (arith, g.many) in
      rw (s.same, drop_of_length-le all past)
