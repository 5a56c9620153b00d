-- The digits of a number in a base: their characters, and how many there are.
use Rattle.std.proofs.Common.{◌≡◌, refl, ◌∙◌, ◌++◌, append_assoc, append-nil, ℕ, zero, suc, ◌+◌, ◌/◌, ◌^◌, ◌≤◌, ◌<◌, add-zero, add-suc, div-one, arith, length, length-append, lt-ltb, le-ltb}
use Rattle.std.proofs.Math.Nat.{pow-zero, pow-succ', div-div-eq-div-mul}
use Rattle.common.proofs.Order.{either_side}
use Rattle.digits.specs.Digits.{glyph, digits, digit_count, decimal}

-- the character of a digit is no lower than 0's
pub glyph-above : (d : ℕ) → 48 ≤ glyph d
unfolding glyph
glyph-above d = either_side d 10 (λ a. simp (lt-ltb d 10 a) (omega arith)) (λ b. simp (le-ltb d 10 b) (omega arith))

module _ (base : ℕ) where
  -- there are as many as asked for
  pub length_digits : (k n : ℕ) → length (digits base k n) ≡ k
  length_digits zero n = refl
  length_digits (suc k) n = rw (length-append, length_digits k (n / base)) (omega arith)

  -- the last digits come after those of the number without them
  pub split_digits : (k j n : ℕ) → digits base (k + j) n ≡ digits base k (n / base ^ j) ++ digits base j n
  split_digits k zero n = simp (add-zero, pow-zero, div-one, append-nil)
  split_digits k (suc j) n =
      let e : n / base ^ suc j ≡ n / base / base ^ j = rw (pow-succ', ← div-div-eq-div-mul) in
      rw (e, ← append_assoc, ← split_digits k j (n / base), add-suc)

-- how many a number has
pub count-short : (k n : ℕ) → digit_count 10 k n ≤ suc k
count-short zero n = omega arith
count-short (suc k) n = either_side n 10 (λ a. simp (lt-ltb n 10 a) (omega arith)) (λ b. simp (le-ltb n 10 b) (omega (arith, count-short k (n / 10))))

module _ (n : ℕ) where
  pub length-decimal : length (decimal n) ≡ digit_count 10 3 n
  unfolding decimal
  length-decimal = length_digits 10 (digit_count 10 3 n) n

  pub one : n < 10 → decimal n ≡ digits 10 1 n
  unfolding decimal
  one h = simp (lt-ltb n 10 h)

  pub two : 10 ≤ n → n < 100 → decimal n ≡ digits 10 2 n
  unfolding decimal
  two g h = simp (le-ltb n 10 g, lt-ltb (n / 10) 10 (omega arith))

  pub three : 100 ≤ n → n < 1000 → decimal n ≡ digits 10 3 n
  unfolding decimal
  three g h = simp (le-ltb n 10 (omega arith), le-ltb (n / 10) 10 (omega arith), lt-ltb (n / 10 / 10) 10 (omega arith))

  pub four : 1000 ≤ n → decimal n ≡ digits 10 4 n
  unfolding decimal
  four g = simp (le-ltb n 10 (omega arith), le-ltb (n / 10) 10 (omega arith), le-ltb (n / 10 / 10) 10 (omega arith))

  -- its hundreds, and the two digits after them
  pub three-parts : 100 ≤ n → n < 1000 → decimal n ≡ digits 10 1 (n / 100) ++ digits 10 2 n
  three-parts g h = three g h ∙ split_digits 10 1 2 n

  pub four-parts : 1000 ≤ n → decimal n ≡ digits 10 2 (n / 100) ++ digits 10 2 n
  four-parts g = four g ∙ split_digits 10 2 2 n
