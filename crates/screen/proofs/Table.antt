-- A table of pens: one test that is computed over all of its entries, and one law over the pen width that turns it into the rule.
use mathlib.Core.Path.{◌≡◌, refl, ◌∙◌, subst, sym}
use mathlib.Core.Bool.{Bool, true, false}
use mathlib.Core.List.{List, [], ◌∷◌}
use Prim.Native.Nat.{ℕ, zero, suc, ◌+◌, ◌*◌, ◌/◌, ◌%◌, ◌<◌}
use native.Mathlib.Nat.{add-zero, zero-add, add-suc, suc-add, suc-mul, mul-le-mul_right, mul-add-div_right, mul-add-mod_self_right, div-eq_of_lt, mod-eq_of_lt}
use native.Mathlib.Omega.{arith}
use lib.Dec.{T, eqb, eqb→eq}
use lib.ListN.{length, get_or}
use Rattle.common.specs.Choice.{both, of_bool}
use Rattle.picture.specs.Pens.{width_of, pen}
use Rattle.screen.specs.Tables.{Table}

both_left : (a b : Bool) → T (both a b) → T a
both_left true b t = tt
both_left false b t = t

both_right : (a b : Bool) → T (both a b) → T b
both_right true b t = t
both_right false b t = absurd t

-- the test f passes at each entry and its place, counted from i
abbrev pub every : (ℕ → ℕ → Bool) → ℕ → List ℕ → Bool
every f i [] = true
every f i (x ∷ xs) = both (f i x) (every f (suc i) xs)

from : (f : ℕ → ℕ → Bool) (xs : List ℕ) (i : ℕ) → T (every f i xs) → (k : ℕ) → k < length xs → T (f (i + k) (get_or xs k 0))
from f [] i t k h = absurd (omega arith)
from f (x ∷ xs) i t zero h = rw (add-zero i) (both_left (f i x) (every f (suc i) xs) t)
from f (x ∷ xs) i t (suc k) h =
    subst (λ (m : ℕ). T (f m (get_or xs k 0))) (suc-add i k ∙ sym (add-suc i k))
    (from f xs (suc i) (both_right (f i x) (every f (suc i) xs) t) k (omega arith))

at : (f : ℕ → ℕ → Bool) (xs : List ℕ) → T (every f 0 xs) → (k : ℕ) → k < length xs → T (f k (get_or xs k 0))
at f xs t k h = subst (λ (m : ℕ). T (f m (get_or xs k 0))) (zero-add k) (from f xs 0 t k h)

-- the entry at a place is this byte's pen: with n pens a byte, place / n is the byte and place % n its pen
unfoldable pub right : ℕ → ℕ → ℕ → Bool
right w k x = eqb x (pen w (k / (8 / w)) (k % (8 / w)))

module _ (n b q : ℕ) (inside : q < n) where
  byte_of : (b * n + q) / n ≡ b
  byte_of = rw (mul-add-div_right {m = n} (omega arith) b q, div-eq_of_lt inside) (add-zero b)

  pen_of : (b * n + q) % n ≡ q
  pen_of = mul-add-mod_self_right b n q ∙ mod-eq_of_lt inside

  place_in : b < 256 → b * n + q < 256 * n
  place_in h = omega (arith, mul-le-mul_right n h, suc-mul b n)

-- the law: a list of 256 bytes' pens that passes the test is this width's table
pub tabled : (w : ℕ) {t : List ℕ} → length t ≡ 256 * (8 / w) → T (every (right w) 0 t) → Table w t
unfolding right
tabled w {t} long all =
    record {
      rule =
          λ b q hb hq.
          let place : ℕ = b * (8 / w) + q in
          let same : get_or t place 0 ≡ pen w (place / (8 / w)) (place % (8 / w)) =
          eqb→eq _ _ (at (right w) t all place (omega (arith, place_in (8 / w) b q hq hb))) in
          rw (byte_of (8 / w) b q hq, pen_of (8 / w) b q hq) at same;
    }

below_2 : (m : ℕ) → m < 2 → of_bool (eqb m 1) ≡ m
below_2 zero h = refl
below_2 (suc zero) h = refl
below_2 (suc (suc m)) h = absurd (omega arith)

-- a pen of one bit is the bit
pub one_bit : (n : ℕ) → of_bool (eqb (n % 2) 1) ≡ n % 2
one_bit n = below_2 (n % 2) (omega arith)

-- any mode but 0 and 1 has pens of one bit
pub beyond_1 : (mode : ℕ) → (mode ≡ 0 → ⊥) → (mode ≡ 1 → ⊥) → width_of mode ≡ 1
beyond_1 zero f g = absurd (f refl)
beyond_1 (suc zero) f g = absurd (g refl)
beyond_1 (suc (suc mode)) f g = refl
