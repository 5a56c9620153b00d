-- Laws of a drawn line as text.
use mathlib.Core.Path.{◌≡◌, refl}
use mathlib.Core.Bool.{Bool, true, false}
use mathlib.Core.List.{List, [], ◌∷◌, ◌++◌, append_assoc, append-nil}
use Prim.Native.Nat.{ℕ, zero, suc, ◌+◌, ◌*◌, ◌/◌, ◌%◌, ◌<◌}
use native.Mathlib.Numerals.{add-one}
use native.Mathlib.Omega.{arith}
use borrow.Author.Tests.{eqb-true, eq-eqb, ne_eqb}
use lib.Dec.{eqb}
use lib.ListN.{get_or}
use Rattle.common.specs.Answers.{done}
use Rattle.common.specs.Choice.{if}
use Rattle.common.specs.Sizes.{line_bytes}
use Rattle.sound.specs.declared.Report.{Report}
use Rattle.text.specs.declared.Output.{Output}
use Rattle.text.specs.Text.{numeral, line_end, Prints}
use Rattle.text.specs.Lines.{report_text}
use Rattle.text.specs.Paint.{character, characters, painted_line}
use Rattle.text.specs.Dump.{digit_at}

-- entries that agree look the same
pub characters-same : (f g : ℕ → ℕ) (n : ℕ) → ((x : ℕ) → x < n → f x ≡ g x) → characters f n ≡ characters g n
unfolding characters
characters-same f g zero h = refl
characters-same f g (suc n) h =
    rw (characters-same f g n (λ x l. h x (omega arith)), h n (omega arith))

-- one more of them
pub one-more : (f : ℕ → ℕ) (n : ℕ) → characters f (n + 1) ≡ characters f n ++ character (f n) ∷ []
unfolding characters
one-more f n = rw add-one

-- the digits of one more byte
pub two-more :
    (bytes : List ℕ) (i : ℕ) →
    characters (digit_at bytes) (2 * (i + 1)) ≡
    characters (digit_at bytes) (2 * i) ++ character (get_or bytes i 0 / 16) ∷ character (get_or bytes i 0 % 16) ∷ []
two-more bytes i =
    let e : 2 * (i + 1) ≡ 2 * i + 1 + 1 = omega arith in
    let even : 2 * i % 2 ≡ 0 = omega arith in
    let odd : (2 * i + 1) % 2 ≡ 1 = omega arith in
    let first : 2 * i / 2 ≡ i = omega arith in
    let second : (2 * i + 1) / 2 ≡ i = omega arith in
    rw (e, one-more, one-more) (simp (even, odd, first, second, append_assoc))

module _ (answer : ℕ) (entry : ℕ → ℕ) (report : Report) {o p : Output} where
  -- a refusal is only its number
  pub refused-line : (answer ≡ done → ⊥) → Prints o (numeral answer ++ line_end) p → Prints o (painted_line answer entry report) p
  unfolding painted_line
  refused-line h q = simp (ne_eqb answer done h, append-nil) q

  -- a line that is shown
  pub shown-line :
      answer ≡ done → Prints o (numeral answer ++ (32 ∷ characters entry line_bytes ++ report_text report) ++ line_end) p →
      Prints o (painted_line answer entry report) p
  unfolding painted_line
  shown-line z q = simp (eq-eqb answer done z) q

-- the same line, if entries and report agree where it is served
pub painted_same :
    (answer : ℕ) (f g : ℕ → ℕ) (r s : Report) → (answer ≡ done → (x : ℕ) → x < line_bytes → f x ≡ g x) → (answer ≡ done → r ≡ s) →
    painted_line answer f r ≡ painted_line answer g s
unfolding painted_line
painted_same answer f g r s same told = by-test (eqb answer done) refl
  where
    by-test :
        (t : Bool) → eqb answer done ≡ t →
        numeral answer ++ if t (32 ∷ characters f line_bytes ++ report_text r) [] ++ line_end ≡
        numeral answer ++ if t (32 ∷ characters g line_bytes ++ report_text s) [] ++ line_end
    by-test true e = rw (characters-same f g line_bytes (same (eqb-true _ _ e)), told (eqb-true _ _ e))
    by-test false e = refl
