-- The bits of a number: one set, one cleared, the lowest that is 0, and those above its highest.
use Rattle.std.proofs.Common.{◌≡◌, ℕ, ◌+◌, ◌-◌, ◌*◌, ◌/◌, ◌^◌, ◌<◌, ◌≤◌, max, true, false, eqb, sym, ap, ◌∙◌, arith, eqb-true, pow_pos}
use Rattle.std.proofs.lemmas.Nat.{and_le_l, leading_length}
use Rattle.std.specs.Int.Count.{count_leading_zeros}
use Rattle.std.proofs.lemmas.Nat.Bits.{bit_at_or, bit_at-pow_other, bit_at-zero, bit_at_above, and_pow}
use Rattle.std.proofs.Math.Nat.{max-zero, zero-mul, one-mul, div-eq-sub-div}
use Rattle.std.proofs.Math.Pow.{pow-lt}
use Rattle.std.specs.Int.{bit_at}
use Rattle.std.specs.Int.Bits.{bit_or}
use borrow.Author.Tests.{eqb-false}
use lib.Bits.{or_lt, or_disjoint}
use Rattle.common.specs.Choice.{bit}

off : (h x : ℕ) → bit h x ≡ false → bit_at x h ≡ 0
off h x b = let ne = eqb-false (bit_at x h) 1 b in omega arith

-- a bit that is 0 set: the number stays below the power it was below, and the other bits stay
or_is : (h x : ℕ) → bit_at x h ≡ 0 → bit_or x (2 ^ h) ≡ x + 2 ^ h
or_is h x b = or_disjoint x (2 ^ h) (and_pow x h ∙ ap (λ n. n * 2 ^ h) b ∙ zero-mul (2 ^ h))

pub more-fits : (h x : ℕ) → h < 64 → x < 2 ^ 64 → bit h x ≡ false → x + 2 ^ h < 2 ^ 64
more-fits h x small fits b = rw (or_is h x (off h x b)) at (or_lt 64 x (2 ^ h) fits (pow-lt small))

set-others : (h x : ℕ) → bit_at x h ≡ 0 → (k : ℕ) → (k ≡ h → ⊥) → bit_at (x + 2 ^ h) k ≡ bit_at x k
set-others h x b k other =
    ap (λ n. bit_at n k) (sym (or_is h x b)) ∙ bit_at_or x (2 ^ h) k ∙ ap (max (bit_at x k)) (bit_at-pow_other h k other) ∙
    max-zero (bit_at x k)

pub more-others : (h x : ℕ) → bit h x ≡ false → (k : ℕ) → (k ≡ h → ⊥) → bit k (x + 2 ^ h) ≡ bit k x
more-others h x b k other = ap (λ n. eqb n 1) (set-others h x (off h x b) k other)

-- a bit that is 1 cleared: that bit is 0, and the other bits stay
room-below : (h x : ℕ) → bit h x ≡ true → 2 ^ h ≤ x
room-below h x b =
    let on : bit_at x h ≡ 1 = eqb-true _ _ b in
    rw (and_pow x h, on, one-mul) at (and_le_l x (2 ^ h))

clear-off : (h x : ℕ) → bit h x ≡ true → bit_at (x - 2 ^ h) h ≡ 0
clear-off h x b =
    let on : bit_at x h ≡ 1 = eqb-true _ _ b in
    let less : x / 2 ^ h ≡ (x - 2 ^ h) / 2 ^ h + 1 = div-eq-sub-div (pow_pos h) (room-below h x b) in
    omega arith

pub less-off : (h x : ℕ) → bit h x ≡ true → bit h (x - 2 ^ h) ≡ false
less-off h x b = ap (λ n. eqb n 1) (clear-off h x b)

pub less-others : (h x : ℕ) → bit h x ≡ true → (k : ℕ) → (k ≡ h → ⊥) → bit k (x - 2 ^ h) ≡ bit k x
less-others h x b k other =
    let back : x - 2 ^ h + 2 ^ h ≡ x = omega (arith, room-below h x b) in
    sym (ap (λ n. bit k n) (sym back) ∙ ap (λ n. eqb n 1) (set-others h (x - 2 ^ h) (clear-off h x b) k other))

-- 0 has none
pub none-on : (k : ℕ) → bit k 0 ≡ false
none-on k = ap (λ n. eqb n 1) (bit_at-zero k)

-- no bit above the highest is 1
pub none_above : (x : ℕ) → x < 2 ^ 64 → (k : ℕ) → 64 - count_leading_zeros 64 x ≤ k → bit k x ≡ false
none_above x small k high =
    let top = leading_length 64 x small in
    ap (λ n. eqb n 1) (bit_at_above x top.0 k top.2 (omega arith))
