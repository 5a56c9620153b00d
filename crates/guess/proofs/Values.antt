-- The value of a digit's character, and the number that digits read as.
use Rattle.std.proofs.Common.{◌≡◌, ◌∙◌, List, [], ◌∷◌, ◌++◌, append_assoc, ℕ, zero, suc, ◌/◌, ◌%◌, ◌^◌, ◌≤◌, ◌<◌, pow-suc, one-mul, mod-lt, mod-eq_of_lt, div-add-mod', div-lt_iff_lt-mul, arith, get_or, lt-ltb, le-ltb, le-leb}
use Rattle.std.proofs.Math.Nat.{pow-zero}
use Rattle.std.proofs.Math.Seq.{get_or_at}
use Rattle.std.proofs.lemmas.Bool.{lt-leb}
use Rattle.common.proofs.Order.{either_side}
use Rattle.digits.specs.Digits.{glyph, digits}
use Rattle.digits.proofs.Digits.{length_digits}
use Rattle.guess.specs.Guess.{value_of, digits_value}

-- the character of a digit has its value
pub glyph-value : (base d : ℕ) → base ≤ 16 → d < base → value_of base (glyph d) ≡ d
unfolding glyph value_of
glyph-value base d g h =
    either_side d 10
    (λ a. simp (lt-ltb d 10 a) (either_side 10 base (λ b. simp (lt-leb base 10 b) (omega arith)) (λ b. simp (le-leb base 10 b) (omega arith))))
    (λ b. simp (le-ltb d 10 b, lt-leb base 10 (omega arith)) (omega arith))

module _ (base : ℕ) where
  -- digits read as their number
  pub read : (k n : ℕ) (r : List ℕ) → 0 < base → base ≤ 16 → n < base ^ suc k → digits_value base k (digits base (suc k) n ++ r) ≡ n
  read zero n r p q h =
      let e : base ^ 1 ≡ base = pow-suc base 0 ∙ simp (pow-zero, one-mul) in
      let small : n < base = rw e at h in
      rw (mod-eq_of_lt small) (glyph-value base n q small)
  read (suc k) n r p q h =
      let last : List ℕ = glyph (n % base) ∷ r in
      let e : (digits base (suc k) (n / base) ++ glyph (n % base) ∷ []) ++ r ≡ digits base (suc k) (n / base) ++ last =
      append_assoc (digits base (suc k) (n / base)) (glyph (n % base) ∷ []) r in
      let small : n / base < base ^ suc k = (div-lt_iff_lt-mul p).1 (rw pow-suc at h) in
      let a : digits_value base k (digits base (suc k) (n / base) ++ last) ≡ n / base = read k (n / base) last p q small in
      let b : get_or (digits base (suc k) (n / base) ++ last) (suc k) 0 ≡ glyph (n % base) =
      get_or_at (digits base (suc k) (n / base)) (glyph (n % base)) r 0 (suc k) (length_digits base (suc k) (n / base)) in
      let d : value_of base (glyph (n % base)) ≡ n % base = glyph-value base (n % base) q (mod-lt n p) in
      rw e (rw (a, b, d) (div-add-mod' n base))
