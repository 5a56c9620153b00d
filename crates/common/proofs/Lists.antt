-- One element of a list set: what holds of another, or of the element that is read. Lists stored one after the other, what is stored
-- from the front, and a list from a function.
use mathlib.Core.Path.{◌≡◌, refl, ap, ◌∙◌}
use mathlib.Core.List.{List, [], ◌∷◌, ◌++◌, map}
use Prim.Native.Nat.{ℕ, zero, suc, ◌+◌, ◌<◌, ◌≤◌}
use native.Mathlib.Nat.{add-zero, suc-add, add-suc}
use native.Mathlib.Omega.{arith}
use lib.ListN.{length, get_or, set, take, drop}
use lib.Seq.{sets, sets-eq, take-append_seam}
use Rattle.common.specs.Lists.{listed}

-- what holds of an element, and of the value that is set if its place is meant, holds after the set
pub after-set :
    {A : Type 0} (P : A → Type 0) (l : List A) (m n : ℕ) (y d : A) →
    P (get_or l n d) → (n ≡ m → P y) → P (get_or (set l m y) n d)
after-set P [] m n y d old new = old
after-set P (a ∷ l) zero zero y d old new = new refl
after-set P (a ∷ l) zero (suc n) y d old new = old
after-set P (a ∷ l) (suc m) zero y d old new = old
after-set P (a ∷ l) (suc m) (suc n) y d old new = after-set P l m n y d old (λ e. new (ap suc e))

-- lists stored one after the other
pub sets-append : {A : Type 0} (a b l : List A) (i : ℕ) → sets (sets l i a) (i + length a) b ≡ sets l i (a ++ b)
sets-append [] b l i = rw add-zero
sets-append (x ∷ a) b l i = rw (add-suc, ← suc-add) (sets-append a b (set l i x) (suc i))

-- what is stored from the front of a list stands there
pub front : {A : Type 0} (a l : List A) → length a ≤ length l → take (length a) (sets l 0 a) ≡ a
front a l h =
    let e : sets l 0 a ≡ take 0 l ++ a ++ drop (0 + length a) l = sets-eq a l 0 (omega arith) in
    rw e (take-append_seam a (drop (0 + length a) l))

-- an element of a list from a function
pub get_or-listed : (f : ℕ → ℕ) (i n j : ℕ) → j < n → get_or (listed f i n) j 0 ≡ f (i + j)
get_or-listed f i zero j h = absurd (omega arith)
get_or-listed f i (suc n) zero h = ap f (omega arith)
get_or-listed f i (suc n) (suc j) h = get_or-listed f (suc i) n j (omega arith) ∙ ap f (omega arith)

-- the first so many of a list, each put through a function
pub map-take : {A B : Type 0} (f : A → B) (n : ℕ) (l : List A) → map f (take n l) ≡ take n (map f l)
map-take f zero l = refl
map-take f (suc n) [] = refl
map-take f (suc n) (a ∷ l) = ap (λ x. f a ∷ x) (map-take f n l)
