-- Placing has an outcome for every area, places, RAM and list: its promise can be met.
use Rattle.std.proofs.Common.{◌≡◌, ℕ, zero, suc, ◌+◌, ◌%◌, ◌<◌, ◌≤◌, Bool, true, false, ◌⊎◌, List, length, eqb, refl, inl, inr, ⊎_elim, arith, add-one, below_more, eqb-true}
use borrow.Author.Tests.{eqb-false}
use Rattle.common.specs.Sizes.{ram_bytes}
use Rattle.common.proofs.Order.{either_side}
use Rattle.common.proofs.Tests.{clash}
use Rattle.lists.specs.Area.{lower, upper, has}
use Rattle.lists.specs.Room.{start_of, end_of, place_at, Apart, Fits}
use Rattle.lists.specs.Place.{askable, FreeHandle, Placed, Places, other_length, not_askable, all_placed, no_gap, placed}
use Rattle.lists.specs.declared.Area.{Area}

pub record Outcome (area : Area) (places ram list : List ℕ) : Type 0 where
  pub places-after : List ℕ
  pub ram-after : List ℕ
  pub result : Placed
  pub holds : Places area places ram list places-after ram-after result

outcome :
    {area : Area} {places ram list places' ram' : List ℕ} {r : Placed} → Places area places ram list places' ram' r →
    Outcome area places ram list
outcome {places' = places'} {ram'} {r} is = record { places-after = places'; ram-after = ram'; result = r; holds = is }

-- the least number below n of which P holds, with Q of all below it; or Q of all below n
data Least (P Q : ℕ → Type 0) (n : ℕ) : Type 0 where
  least : (a : ℕ) → a < n → P a → ((b : ℕ) → b < a → Q b) → Least P Q n
  none : ((b : ℕ) → b < n → Q b) → Least P Q n

module _ {P Q : ℕ → Type 0} (decide : (a : ℕ) → P a ⊎ Q a) where
  one_more : {n : ℕ} → Least P Q n → Least P Q (n + 1)
  one_more (least a h p low) = least a (omega arith) p low
  one_more {n} (none q) = ⊎_elim (λ p. least n (omega arith) p q) (λ r. none (below_more _ n q r)) (decide n)

  seek : (n : ℕ) → Least P Q n
  seek zero = none (λ b h. absurd (omega arith))
  seek (suc n) = rw (← add-one) (one_more (seek n))

-- each test comes out one way or the other: a bit, a list apart from another, a list that fits
either-test : (b : Bool) → (b ≡ false) ⊎ (b ≡ true)
either-test true = inr refl
either-test false = inl refl

module _ (area : Area) (places : List ℕ) (bytes : ℕ) where
  -- a placed list that is in the way of an address
  record Blocks (a k : ℕ) : Type 0 where
    on : has area k ≡ true
    meet : Apart (place_at places k) a bytes → ⊥

  apart : (p a : ℕ) → (Apart p a bytes → ⊥) ⊎ Apart p a bytes
  apart p a =
      either_side (start_of p) (a + bytes)
      (λ g. either_side a (end_of p) (λ h. inl (⊎_elim (λ w. omega arith) (λ w. omega arith))) (λ h. inr (inr h)))
      (λ g. inr (inl g))

  blocks : (a k : ℕ) → Blocks a k ⊎ (has area k ≡ true → Apart (place_at places k) a bytes)
  blocks a k =
      ⊎_elim (λ off. inr (λ on. absurd (clash on off)))
      (λ on. ⊎_elim (λ meet. inl (record { on = on; meet = meet })) (λ w. inr (λ h. w)) (apart (place_at places k) a))
      (either-test (has area k))

  by_blocks : (a : ℕ) → Least (Blocks a) (λ k. has area k ≡ true → Apart (place_at places k) a bytes) 64 → a % 2 ≡ 0 → lower area ≤ a →
      a + bytes ≤ upper area → Fits area places bytes a ⊎ (Fits area places bytes a → ⊥)
  by_blocks a (least k h block low) even above below = inr (λ fits. block.meet (fits.between k h block.on))
  by_blocks a (none between) even above below = inl (record { even = even; above = above; below = below; between = between })

  fits : (a : ℕ) → Fits area places bytes a ⊎ (Fits area places bytes a → ⊥)
  fits a =
      either_side 0 (a % 2) (λ odd. inr (λ f. omega (arith, f.even)))
      (λ even.
      either_side a (lower area) (λ low. inr (λ f. omega (arith, f.above)))
      (λ above.
      either_side (upper area) (a + bytes) (λ high. inr (λ f. omega (arith, f.below)))
      (λ below. by_blocks a (seek (blocks a) 64) (omega arith) above below)))

module _ (area : Area) (places ram list : List ℕ) (long : length ram ≡ ram_bytes) (ask : askable area (length list) ≡ true) where
  by-gap : {handle : ℕ} → FreeHandle area handle →
      Least (Fits area places (length list)) (λ a. Fits area places (length list) a → ⊥) (upper area + 1) → Outcome area places ram list
  by-gap free (least a h fit low) =
      outcome (placed long ask free (record { fits = fit; lowest = λ b f. either_side b a (λ g. absurd (low b g f)) (λ g. g) }))
  by-gap free (none all) = outcome (no_gap long ask free (λ a f. all a (omega (arith, f.below)) f))

  by-handle : Least (λ k. has area k ≡ false) (λ k. has area k ≡ true) 64 → Outcome area places ram list
  by-handle (least h below free all) =
      by-gap (record { below = below; free = free; lowest = all }) (seek (fits area places (length list)) (upper area + 1))
  by-handle (none all) = outcome (all_placed long ask all)

pub some : (area : Area) (places ram list : List ℕ) → Outcome area places ram list
some area places ram list =
    ⊎_elim (λ other. outcome (other_length (eqb-false (length ram) ram_bytes other)))
    (λ is.
    let long : length ram ≡ ram_bytes = eqb-true (length ram) ram_bytes is in
    ⊎_elim (λ ask. outcome (not_askable long ask))
    (λ ask. by-handle area places ram list long ask (seek (λ k. either-test (has area k)) 64))
    (either-test (askable area (length list))))
    (either-test (eqb (length ram) ram_bytes))
