-- The stage counts the bytes of the sequence that a history ends in, so the machine unlocks and locks as the patterns
-- say, after every history.
use mathlib.Core.Path.{◌≡◌, refl, sym, ap, ◌∙◌}
use mathlib.Core.Bool.{Bool, true, false, not}
use mathlib.Core.List.{List, [], ◌∷◌}
use Prim.Native.Nat.{ℕ, zero, suc, ◌+◌, ◌-◌, ◌<◌, ◌≤◌}
use native.Mathlib.Omega.{arith}
use native.Mathlib.Nat.{le_of_suc-le-suc, not-suc-le-zero}
use lib.Dec.{eqb, leb, ltb}
use lib.ListN.{get_or, length}
use borrow.Author.Tests.{eqb-true, eqb-false, leb-true, ltb-true, not-true, eq-eqb, ne_eqb, le-leb, lt-ltb}
use Rattle.common.specs.Choice.{if, both}
use Rattle.common.proofs.Tests.{both_true, and_true, and_false}
use Rattle.lock.specs.declared.Lock.{Lock}
use Rattle.lock.specs.History.{Place, zero_byte, non_zero, exactly, meets_all, ends_as, unlocking, locking, unlocked_by}
use Rattle.lock.specs.Machine.{key, goes_on, after_zero, begins, next_stage, fed, reset_lock, after, Tracks, Fresh, Fed}

-- two tests joined
both_comm : (a b : Bool) → both a b ≡ both b a
both_comm true b = sym (and_true b)
both_comm false b = sym (and_false b)

-- no byte of a list is zero
abbrev no_zero : List ℕ → Bool
no_zero [] = true
no_zero (x ∷ xs) = both (not (eqb x 0)) (no_zero xs)

get_or-no_zero : (xs : List ℕ) → no_zero xs ≡ true → (n : ℕ) → n < length xs → eqb (get_or xs n 0) 0 ≡ false
get_or-no_zero [] e n h = absurd (not-suc-le-zero h)
get_or-no_zero (x ∷ xs) e zero h = not-true (eqb x 0) (both_true (not (eqb x 0)) (no_zero xs) e).0
get_or-no_zero (x ∷ xs) e (suc n) h =
    get_or-no_zero xs (both_true (not (eqb x 0)) (no_zero xs) e).1 n (le_of_suc-le-suc h)

-- the next stage: one more by the byte waited for, which isn't zero, or as the next attempt begins
data Next (s b : ℕ) : ℕ → Type 0 where
  further : 2 ≤ s → eqb b (get_or key (s - 2) 0) ≡ true → eqb b 0 ≡ false → Next s b (s + 1)
  anew : goes_on s b ≡ false → Next s b (begins s b)

next : (s b : ℕ) → Next s b (next_stage s b)
unfolding next_stage
next s b = go (goes_on s b) refl
  where
    go : (g : Bool) → goes_on s b ≡ g → Next s b (if g (s + 1) (begins s b))
    go true e =
        let (range, byte) = both_true (both (leb 2 s) (ltb s 16)) (eqb b (get_or key (s - 2) 0)) e in
        let (low, high) = both_true (leb 2 s) (ltb s 16) range in
        let inside : s - 2 < 14 = omega (arith, ltb-true s 16 high) in
        further (leb-true 2 s low) byte
        (rw (eqb-true b (get_or key (s - 2) 0) byte) (get_or-no_zero key refl (s - 2) inside))
    go false e = anew e

-- the stage that an attempt begins with, by whether the byte is zero and whether the stage before is one after a zero
abbrev begun : Bool → Bool → ℕ
begun z p = if (not z) 1 (if p 0 2)

-- that is at most 2, is a stage after a zero exactly by a zero, and 2 exactly by a zero after a byte that isn't one
starts : (z p : Bool) → (begun z p ≤ 2) × (after_zero (begun z p) ≡ z) × (both z (not p) ≡ eqb (begun z p) 2)
starts true true = (omega arith, refl, refl)
starts true false = (omega arith, refl, refl)
starts false p = (omega arith, refl, refl)

zero-last : {s b t : ℕ} → Next s b t → after_zero t ≡ eqb b 0
zero-last {s} {b} (further low byte full) =
    simp (full, ne_eqb (s + 1) 0 (omega arith), ne_eqb (s + 1) 2 (omega arith))
zero-last {s} {b} (anew e) = (starts (eqb b 0) (after_zero s)).1

-- stage 2 comes by a zero after a byte that isn't zero
second : {s b t : ℕ} → Next s b t → both (eqb b 0) (not (after_zero s)) ≡ eqb t 2
second {s} {b} (further low byte full) = simp (full, ne_eqb (s + 1) 2 (omega arith))
second {s} {b} (anew e) = (starts (eqb b 0) (after_zero s)).2

-- the stage that waits for byte n of the sequence goes on by that byte alone
goes : (n : ℕ) → n < 14 → (b : ℕ) → goes_on (suc (suc n)) b ≡ eqb b (get_or key n 0)
goes n h b =
    let low : leb 2 (suc (suc n)) ≡ true = le-leb 2 (suc (suc n)) (omega arith) in
    let high : ltb (suc (suc n)) 16 ≡ true = lt-ltb (suc (suc n)) 16 (omega arith) in
    let place : suc (suc n) - 2 ≡ n = omega arith in
    simp (low, high, place)

-- a stage from 3 on comes from the one before by the byte that this one waits for, and from nowhere else
onwards : (n : ℕ) → n < 14 → {s b t : ℕ} → Next s b t
    → both (eqb b (get_or key n 0)) (eqb s (suc (suc n))) ≡ eqb t (suc (suc (suc n)))
onwards n h {s} {b} (further low byte full) = go (eqb s (suc (suc n))) refl
  where
    go : (g : Bool) → eqb s (suc (suc n)) ≡ g → both (eqb b (get_or key n 0)) g ≡ eqb (s + 1) (suc (suc (suc n)))
    go true e =
        let same : s ≡ suc (suc n) = eqb-true s (suc (suc n)) e in
        let place : s - 2 ≡ n = omega arith in
        simp (rw place at byte, eq-eqb (s + 1) (suc (suc (suc n))) (omega arith))
    go false e =
        simp (
          and_false,
          ne_eqb (s + 1) (suc (suc (suc n)))
              (λ (q : s + 1 ≡ suc (suc (suc n))). eqb-false s (suc (suc n)) e (omega arith)),
        )
onwards n h {s} {b} (anew e) =
    simp (ne_eqb (begins s b) (suc (suc (suc n))) (omega (arith, (starts (eqb b 0) (after_zero s)).0)))
    (go (eqb s (suc (suc n))) refl)
  where
    go : (g : Bool) → eqb s (suc (suc n)) ≡ g → both (eqb b (get_or key n 0)) g ≡ false
    go true same =
        and_true (eqb b (get_or key n 0)) ∙ sym (goes n h b) ∙ rw (eqb-true s (suc (suc n)) same) at e
    go false other = and_false (eqb b (get_or key n 0))

-- one byte that isn't zero, one zero, and the first n of the sequence; newest first, as a history
abbrev pub up_to : ℕ → List Place
up_to zero = zero_byte ∷ non_zero ∷ []
up_to (suc n) = exactly (get_or key n 0) ∷ up_to n

full-last : (h : List ℕ) → meets_all (non_zero ∷ []) h ≡ not (after_zero (after h).stage)
unfolding after fed
full-last [] = refl
full-last (b ∷ h) = and_true (not (eqb b 0)) ∙ ap not (sym (zero-last (next (after h).stage b)))

-- the stage counts the bytes of the sequence that a history ends in
pub counts : (n : ℕ) → n ≤ 14 → (h : List ℕ) → meets_all (up_to n) h ≡ eqb (after h).stage (suc (suc n))
unfolding after fed
counts zero k [] = refl
counts zero k (b ∷ h) = ap (both (eqb b 0)) (full-last h) ∙ second (next (after h).stage b)
counts (suc n) k [] = sym (ne_eqb 0 (suc (suc (suc n))) (omega arith))
counts (suc n) k (b ∷ h) =
    ap (both (eqb b (get_or key n 0))) (counts n (omega arith) h) ∙ onwards n k (next (after h).stage b)

-- the unlocking pattern is met at stage 16 with any byte
pub unlock_met : (b : ℕ) (h : List ℕ) → ends_as unlocking (b ∷ h) ≡ eqb (after h).stage 16
unlock_met b h = counts 14 (omega arith) h

-- and the locking one at stage 15 with a byte that isn't CD
pub lock-met : (b : ℕ) (h : List ℕ) → ends_as locking (b ∷ h) ≡ both (eqb (after h).stage 15) (not (eqb b 0xcd))
lock-met b h =
    ap (both (not (eqb b 0xcd))) (counts 13 (omega arith) h) ∙ both_comm (not (eqb b 0xcd)) (eqb (after h).stage 15)

-- no history meets both patterns, so it's no matter which of the two is asked first
pub apart : (b : ℕ) (h : List ℕ) → both (ends_as unlocking (b ∷ h)) (ends_as locking (b ∷ h)) ≡ false
apart b h = simp (unlock_met b h, lock-met b h) (go (eqb (after h).stage 16) refl)
  where
    go : (g : Bool) → eqb (after h).stage 16 ≡ g → both g (both (eqb (after h).stage 15) (not (eqb b 0xcd))) ≡ false
    go true e = rw (eqb-true (after h).stage 16 e) refl
    go false e = refl

-- after every history the machine is unlocked exactly as the patterns say
pub unlocks : (h : List ℕ) → (after h).unlocked ≡ unlocked_by h
unfolding after fed unlocked_by
unlocks [] = refl
unlocks (b ∷ h) = simp (unlock_met b h, lock-met b h, unlocks h)

-- a lock in the machine's state after a history tracks it
pub tracked : (h : List ℕ) (l : Lock) → l ≡ after h → Tracks h l
tracked h l e = record { machine = e; patterns = ap (λ (x : Lock). x.unlocked) e ∙ unlocks h }

-- so every history has a lock that tracks it
pub tracks-after : (h : List ℕ) → Tracks h (after h)
tracks-after h = tracked h (after h) refl

-- the contracts of `new` and `feed`, from their equations
pub fresh : (r : Lock) → r ≡ reset_lock → Fresh r
unfolding after
fresh r e = record { lock = e; tracks = tracked [] r e }

pub feeds : (l : Lock) (b : ℕ) (r : Lock) → r ≡ fed l b → Fed l b r
unfolding after
feeds l b r e =
    record {
      lock = e;
      tracks = λ h t. tracked (b ∷ h) r (e ∙ ap (λ (x : Lock). fed x b) t.machine);
    }
