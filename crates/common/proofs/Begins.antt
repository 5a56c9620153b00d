-- A list that begins with another.
use native.Mathlib.Omega.{arith}
use mathlib.Core.Path.{◌≡◌, refl, ap, ◌∙◌}
use mathlib.Core.Bool.{true}
use mathlib.Core.List.{List, [], ◌∷◌, ◌++◌, append-nil}
use Prim.Native.Nat.{ℕ, ◌≤◌}
use borrow.Author.Tests.{eq-eqb, eqb-true}
use lib.Dec.{eqb}
use lib.ListN.{length, drop, drop_of_length-le}
use Rattle.common.specs.Lists.{begins}
use Rattle.common.proofs.Tests.{both_true}

-- it is that one and something more
pub begins-with : (xs more : List ℕ) → begins xs (xs ++ more) ≡ true
begins-with [] more = refl
begins-with (x ∷ xs) more = rw (eq-eqb x x refl) (begins-with xs more)

pub begins-true : (xs l : List ℕ) → begins xs l ≡ true → l ≡ xs ++ drop (length xs) l
begins-true [] l e = refl
begins-true (x ∷ xs) [] e = absurd (let z : ◌≡◌ {A = ℕ} 0 1 = cc in omega arith)
begins-true (x ∷ xs) (y ∷ l) e =
    let t = both_true (eqb x y) (begins xs l) e in
    rw (eqb-true x y t.0) (ap (λ s. y ∷ s) (begins-true xs l t.1))

-- one that is no longer than that one is that one
pub begins-all : (xs l : List ℕ) → length l ≤ length xs → begins xs l ≡ true → l ≡ xs
begins-all xs l h e = begins-true xs l e ∙ rw (drop_of_length-le l h) (append-nil xs)
