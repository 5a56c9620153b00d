-- The line of a word by its code, in the parts that are printed, and its length.
use Rattle.std.proofs.Common.{◌≡◌, refl, ap, Bool, true, false, List, [], ◌∷◌, ◌++◌, append_assoc, ℕ, zero, suc, ◌+◌, ◌*◌, ◌/◌, ◌%◌, ◌≤◌, ◌<◌, arith, eqb, length, length-append, eqb-true, ne_eqb}
use Rattle.words.specs.Words.{kind_of, low12}
use Rattle.words.specs.declared.WordKind.TheVariants.{Load, Pause, Repeat, Control}
use Rattle.common.proofs.Order.{either_side}
use Rattle.digits.specs.Digits.{digits, decimal}
use Rattle.mnemonic.specs.Mnemonic.{LOAD, LOOP, INT, STOP, NOP, WORD, blank, plus, lf, text_line, plain, text_by, word_text, longest_line}
use Rattle.mnemonic.specs.Parts.{load_line_of, pause_line, repeat_line, word_line}
use Rattle.digits.proofs.Digits.{split_digits, length-decimal, count-short}

regroup : (a b c d : List ℕ) → (a ++ (b ++ c)) ++ d ≡ ((a ++ b) ++ c) ++ d
regroup a b c d = simp append_assoc

module _ (w : ℕ) where
  pub load_line : w / 4096 ≡ 0 → text_line w ≡ load_line_of w
  unfolding text_line kind_of
  load_line e = rw e (regroup ((LOAD ++ blank ∷ []) ++ decimal (w / 256)) (blank ∷ []) (digits 16 2 (w % 256)) (lf ∷ []))

  pub pause-line : w / 4096 ≡ 1 → text_line w ≡ pause_line w
  unfolding text_line kind_of
  pause-line e = rw e

  pub repeat-line : w / 4096 ≡ 2 → text_line w ≡ repeat_line w
  unfolding text_line kind_of
  repeat-line e = rw e

  -- the digits of a word are those of its two bytes
  word-line : word_text w ++ lf ∷ [] ≡ word_line w
  word-line = ap (λ d. (WORD ++ blank ∷ d) ++ lf ∷ []) (split_digits 16 2 2 w)

  -- a word with another code has no name
  pub other-line : (w / 4096 ≡ 0 → ⊥) → (w / 4096 ≡ 1 → ⊥) → (w / 4096 ≡ 2 → ⊥) → (w / 4096 ≡ 4 → ⊥) → text_line w ≡ word_line w
  unfolding text_line kind_of
  other-line a b c d = simp (ne_eqb _ _ a, ne_eqb _ _ b, ne_eqb _ _ c, ne_eqb _ _ d) word-line

  -- nor has a control word with another bit
  pub stray_line : w / 4096 ≡ 4 → (low12 w ≡ w % 2 + w / 16 % 4 * 16 → ⊥) → text_line w ≡ word_line w
  unfolding text_line kind_of
  stray_line e n = simp (e, ne_eqb _ _ n) word-line

  pub load-length : w / 4096 ≡ 0 → length (text_line w) ≡ 9 + length (decimal (w / 256))
  load-length e = rw (load_line e) (simp length-append (omega arith))

  pub pause-length : w / 4096 ≡ 1 → length (text_line w) ≡ 7 + length (decimal (w % 4096))
  pause-length e = rw (pause-line e) (simp length-append (omega arith))

  pub repeat-length : w / 4096 ≡ 2 → length (text_line w) ≡ 8 + length (decimal (w % 4096))
  repeat-length e = rw (repeat-line e) (simp length-append (omega arith))

-- a control word that has no other bit is one of eight
pub eight :
    (P : ℕ → Type 0) (w : ℕ) → w / 4096 ≡ 4 → low12 w ≡ w % 2 + w / 16 % 4 * 16 →
    P 0x4000 → P 0x4001 → P 0x4010 → P 0x4011 → P 0x4020 → P 0x4021 → P 0x4030 → P 0x4031 → P w
eight P w c e a0 a1 b0 b1 c0 c1 d0 d1 = by_bits (w / 16 % 4) refl
  where
    pair : (k : ℕ) → w / 16 % 4 ≡ k → P (0x4000 + k * 16) → P (0x4001 + k * 16) → P w
    pair k h p q =
        either_side (w % 2) 1
        (λ a. let x : w ≡ 0x4000 + k * 16 = omega arith in rw x p)
        (λ b. let x : w ≡ 0x4001 + k * 16 = omega arith in rw x q)

    by_bits : (k : ℕ) → w / 16 % 4 ≡ k → P w
    by_bits zero h = pair 0 h a0 a1
    by_bits (suc zero) h = pair 1 h b0 b1
    by_bits (suc (suc zero)) h = pair 2 h c0 c1
    by_bits (suc (suc (suc zero))) h = pair 3 h d0 d1
    by_bits (suc (suc (suc (suc k)))) h = absurd (omega arith)

-- a control word that is none of the eight has no name
module _ (w : ℕ) (e : w / 4096 ≡ 4) where
  pub unnamed_line :
      (w ≡ 0x4000 → ⊥) → (w ≡ 0x4001 → ⊥) → (w ≡ 0x4010 → ⊥) → (w ≡ 0x4011 → ⊥) →
      (w ≡ 0x4020 → ⊥) → (w ≡ 0x4021 → ⊥) → (w ≡ 0x4030 → ⊥) → (w ≡ 0x4031 → ⊥) →
      text_line w ≡ word_line w
  unnamed_line a0 a1 b0 b1 c0 c1 d0 d1 =
      stray_line w e (λ h. eight (λ v. w ≡ v → ⊥) w e h a0 a1 b0 b1 c0 c1 d0 d1 refl)

-- what holds of the text of each form, and of the eight names, holds of every word's
pub by_form :
    (P : ℕ → List ℕ → Type 0) (w : ℕ) →
    (w / 4096 ≡ 0 → P w (text_by Load w)) →
    (w / 4096 ≡ 1 → P w (text_by Pause w)) →
    (w / 4096 ≡ 2 → P w (text_by Repeat w)) →
    P w (word_text w) →
    P 0x4000 NOP → P 0x4001 LOOP → P 0x4010 INT → P 0x4011 (LOOP ++ plus ∷ INT) →
    P 0x4020 STOP → P 0x4021 (LOOP ++ plus ∷ STOP) → P 0x4030 (INT ++ plus ∷ STOP) → P 0x4031 (LOOP ++ plus ∷ INT ++ plus ∷ STOP) →
    P w (text_by (kind_of w) w)
unfolding kind_of
by_form P w load pause repeat word a0 a1 b0 b1 c0 c1 d0 d1 = by_code (w / 4096) refl
  where
    by-plain : w / 4096 ≡ 4 → (b : Bool) → plain w ≡ b → P w (text_by Control w)
    by-plain c true e = eight (λ v. P v (text_by Control v)) w c (eqb-true _ _ e) a0 a1 b0 b1 c0 c1 d0 d1
    by-plain c false e = rw e word

    by_code : (k : ℕ) → w / 4096 ≡ k → P w (text_by (kind_of w) w)
    by_code zero e = rw e (load e)
    by_code (suc zero) e = rw e (pause e)
    by_code (suc (suc zero)) e = rw e (repeat e)
    by_code (suc (suc (suc zero))) e = rw e word
    by_code (suc (suc (suc (suc zero)))) e = rw e (by-plain e (plain w) refl)
    by_code (suc (suc (suc (suc (suc k))))) e =
        let other : (n : ℕ) → n < 5 → eqb (w / 4096) n ≡ false = λ n l. ne_eqb (w / 4096) n (λ q. omega arith) in
        simp (other 0 (omega arith), other 1 (omega arith), other 2 (omega arith), other 4 (omega arith)) word

-- a line has a byte, and no more than the longest has
pub some : (w : ℕ) → 1 ≤ length (text_line w)
unfolding text_line
some w = simp length-append (omega arith)

pub short : (n : ℕ) → length (decimal n) ≤ 4
short n = omega (arith, length-decimal n, count-short 3 n)

pub longest : (w : ℕ) → length (text_line w) ≤ longest_line
unfolding text_line
longest w =
    by_form (λ v t. length (t ++ lf ∷ []) ≤ longest_line) w
    (λ e. simp length-append (omega (arith, short (w / 256))))
    (λ e. simp length-append (omega (arith, short (w % 4096))))
    (λ e. simp length-append (omega (arith, short (w % 4096))))
    (omega arith)
    (omega arith) (omega arith) (omega arith) (omega arith) (omega arith) (omega arith) (omega arith) (omega arith)

pub longest-is : length (text_line 0x4031) ≡ longest_line
unfolding text_line kind_of
longest-is = refl

-- the line of a word by its code, and its length
pub ruleset forms = (load_line, pause-line, repeat-line, other-line)

pub ruleset lengths = (load-length, pause-length, repeat-length, other-line)
