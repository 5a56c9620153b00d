-- Pairs: two values of each one, the two bytes of a character, and a line's pens by three passes of pairs, in modes 0 and 2.
use mathlib.Core.Path.{◌≡◌, ◌∙◌}
use mathlib.Core.List.{List}
use Prim.Native.Nat.{ℕ, zero, suc, ◌*◌, ◌/◌, ◌%◌, ◌<◌}
use native.Mathlib.Nat.{zero-add, add-zero}
use native.Mathlib.Omega.{arith}
use lib.ListN.{length, get_or}
use Rattle.picture.specs.Pens.{width_of, pen, pen_at}
use Rattle.screen.specs.MainLine.{line_pen}
use Rattle.screen.specs.Placing.{line_byte, paired, part_of, Placed, LineBytes}
use Rattle.screen.proofs.Table.{one_bit}

-- mode 0: a byte's second pen is the first of the byte one bit higher
module _ (b : ℕ) where
  of_8 : b % 128 * 2 / 8 % 2 ≡ b / 4 % 2
  of_8 =
      let e : b % 128 * 2 / 8 ≡ b % 128 / 4 = omega arith in
      rw e (omega arith)

  of_32 : b % 128 * 2 / 32 % 2 ≡ b / 16 % 2
  of_32 =
      let e : b % 128 * 2 / 32 ≡ b % 128 / 16 = omega arith in
      rw e (omega arith)

  pub shifted : pen 4 (b % 128 * 2) 0 ≡ pen 4 b 1
  unfolding pen
  shifted =
      let of-128 : b % 128 * 2 / 128 % 2 ≡ b / 64 % 2 = omega arith in
      let of-2 : b % 128 * 2 / 2 % 2 ≡ b / 1 % 2 = omega arith in
      rw (of-128, of_8, of_32, of-2)

-- mode 2: a byte's parts by 16, theirs by 4 and theirs by 2 are its bits, bit 7 first
pub bits : {b : ℕ} → b < 256 → (j : ℕ) → j < 8 → part_of 2 (part_of 4 (part_of 16 b (j / 4)) (j / 2 % 2)) (j % 2) ≡ pen_at 1 b j
unfolding pen_at pen
bits byte zero h = simp (one_bit, add-zero) (omega arith)
bits byte (suc zero) h = simp (one_bit, add-zero) (omega arith)
bits byte (suc (suc zero)) h = simp (one_bit, add-zero) (omega arith)
bits byte (suc (suc (suc zero))) h = simp (one_bit, add-zero) (omega arith)
bits byte (suc (suc (suc (suc zero)))) h = simp (one_bit, add-zero) (omega arith)
bits byte (suc (suc (suc (suc (suc zero))))) h = simp (one_bit, add-zero) (omega arith)
bits byte (suc (suc (suc (suc (suc (suc zero)))))) h = simp (one_bit, add-zero) (omega arith)
bits byte (suc (suc (suc (suc (suc (suc (suc zero))))))) h = simp (one_bit, add-zero) (omega arith)
bits byte (suc (suc (suc (suc (suc (suc (suc (suc j)))))))) h = absurd (omega arith)

middle : (p : ℕ) → p / 2 % 2 ≡ p % 8 / 2 % 2
middle p = omega arith

-- three passes over a line's bytes are the line's pens, if they make of each byte its pens at its 8 positions
module _ (mode : ℕ) (f₁ f₂ f₃ : ℕ → ℕ → ℕ) {ram bytes one two line before a b : List ℕ} {address row : ℕ} where
  pub pens_of :
      ((i j : ℕ) → j < 8 → f₃ (f₂ (f₁ (get_or ram i 0) (j / 4)) (j / 2 % 2)) (j % 2) ≡ pen_at (width_of mode) (get_or ram i 0) j) →
      LineBytes ram address row bytes → Placed (paired f₁ bytes) 0 (2 * length bytes) a one →
      Placed (paired f₂ one) 0 (2 * length one) b two → Placed (paired f₃ two) 16 (2 * length two) before line →
      length bytes ≡ 80 → length one ≡ 160 → length two ≡ 320 → Placed (line_pen ram mode address row) 16 640 before line
  unfolding line_byte paired line_pen
  pens_of each are first second third n₁ n₂ n₃ =
      record {
        kept = third.kept;
        put =
            λ p h.
            let e₁ : p / 2 / 2 / 2 / 2 ≡ p / 16 = omega arith in
            let e₂ : p / 2 / 2 / 2 % 2 ≡ p / 8 % 2 = omega arith in
            let e₃ : p / 2 / 2 % 2 ≡ p % 8 / 4 = omega arith in
            let e₄ : p % 2 ≡ p % 8 % 2 = omega arith in
            let one = rw (zero-add (p / 2 / 2)) at (first.put (p / 2 / 2) (omega arith)) in
            let two = rw (zero-add (p / 2)) at (second.put (p / 2) (omega arith)) in
            third.put p (omega arith) ∙
            rw (two, one, are.each (p / 2 / 2 / 2) (omega arith), e₁, e₂, e₃, middle p, e₄) (each _ (p % 8) (omega arith));
      }
