-- The only LF of a line is its last byte.
use Rattle.std.proofs.Common.{◌≡◌, refl, sym, Bool, true, false, List, [], ◌∷◌, ◌++◌, ℕ, zero, suc, ◌/◌, ◌%◌, arith, eqb, ne_eqb}
use Rattle.common.specs.Choice.{if}
use Rattle.words.specs.Words.{kind_of}
use Rattle.digits.specs.Digits.{glyph, digits, digit_count, decimal}
use Rattle.mnemonic.specs.Mnemonic.{lf, text_by, text_line}
use Rattle.digits.proofs.Digits.{glyph-above}
use Rattle.mnemonic.proofs.Lines.{by_form}

-- whether a text has an LF
abbrev pub broken : List ℕ → Bool
broken [] = false
broken (x ∷ xs) = if (eqb x lf) true (broken xs)

if_assoc : (a b c : Bool) → if (if a true b) true c ≡ if a true (if b true c)
if_assoc true b c = refl
if_assoc false b c = refl

pub broken-append : (a b : List ℕ) → broken (a ++ b) ≡ if (broken a) true (broken b)
broken-append [] b = refl
broken-append (x ∷ a) b = rw (broken-append a b) (sym (if_assoc (eqb x lf) (broken a) (broken b)))

-- digits have none
glyph-unbroken : (d : ℕ) → eqb (glyph d) lf ≡ false
glyph-unbroken d = ne_eqb (glyph d) lf (λ e. omega (arith, glyph-above d))

digits-unbroken : (base k n : ℕ) → broken (digits base k n) ≡ false
digits-unbroken base zero n = refl
digits-unbroken base (suc k) n = rw (broken-append, digits-unbroken base k (n / base)) (simp glyph-unbroken)

decimal-unbroken : (n : ℕ) → broken (decimal n) ≡ false
unfolding decimal
decimal-unbroken n = digits-unbroken 10 (digit_count 10 3 n) n

-- nor has a word's text, which an LF makes its line
pub unbroken : (w : ℕ) → broken (text_by (kind_of w) w) ≡ false
unbroken w =
    by_form (λ v t. broken t ≡ false) w
    (λ e. simp (broken-append, decimal-unbroken, glyph-unbroken))
    (λ e. decimal-unbroken (w % 4096))
    (λ e. decimal-unbroken (w % 4096))
    (simp glyph-unbroken)
    refl refl refl refl refl refl refl refl

pub ended : (w : ℕ) → text_line w ≡ text_by (kind_of w) w ++ lf ∷ []
unfolding text_line
ended w = refl
