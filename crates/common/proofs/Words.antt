-- A test at words one after the other: it holds of one of them, or of none.
use mathlib.Core.Path.{◌≡◌}
use mathlib.Core.Bool.{Bool, true}
use mathlib.Core.Logic.{⊎_elim}
use Prim.Native.Nat.{ℕ, zero, suc, ◌+◌, ◌*◌, ◌<◌}
use native.Mathlib.Omega.{arith}
use Rattle.common.specs.Lists.{any_word}
use Rattle.common.proofs.Tests.{either_true, or_true}

-- the word of which it holds
pub record Holds (p : ℕ → Bool) (n a : ℕ) : Type 0 where
  pub place : ℕ
  pub below : place < n
  pub holds : p (a + place * 2) ≡ true

module _ (p : ℕ → Bool) where
  pub any_at : (i n a : ℕ) → i < n → p (a + i * 2) ≡ true → any_word p n a ≡ true
  unfolding any_word
  any_at i zero a l h = absurd (omega arith)
  any_at zero (suc n) a l h = let here : a + 0 * 2 ≡ a = omega arith in rw (rw here at h)
  any_at (suc i) (suc n) a l h =
      let at : a + suc i * 2 ≡ a + 2 + i * 2 = omega arith in
      rw (any_at i n (a + 2) (omega arith) (rw at at h)) (or_true (p a))

  pub some_at : (n a : ℕ) → any_word p n a ≡ true → Holds p n a
  unfolding any_word
  some_at zero a e = absurd (let z : ◌≡◌ {A = ℕ} 0 1 = cc in omega arith)
  some_at (suc n) a e =
      ⊎_elim
      (λ h. let here : a + 0 * 2 ≡ a = omega arith in record { place = 0; below = omega arith; holds = rw here h })
      (λ r.
      let k = some_at n (a + 2) r in
      let at : a + suc k.place * 2 ≡ a + 2 + k.place * 2 = omega arith in
      record { place = suc k.place; below = omega (arith, k.below); holds = rw at k.holds })
      (either_true (p a) (any_word p n (a + 2)) e)
