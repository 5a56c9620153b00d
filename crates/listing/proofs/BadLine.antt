-- The first bad line is one: it ends with the first LF of the rest, or with the rest, and is no word's.
use Rattle.std.proofs.Common.{◌≡◌, refl, ap, ◌∙◌, Bool, true, false, List, [], ◌∷◌, ◌++◌, append_assoc, ℕ, ◌<◌, eqb, length, drop}
use Rattle.common.specs.Choice.{if}
use Rattle.words.specs.Words.{kind_of}
use Rattle.mnemonic.specs.Mnemonic.{lf, text_by, text_line}
use Rattle.mnemonic.proofs.Ends.{broken, unbroken, ended}
use Rattle.listing.specs.Text.{first_line, NoLine}

-- a text is its first line and what comes after it
after_first : (text : List ℕ) → text ≡ first_line text ++ drop (length (first_line text)) text
after_first [] = refl
after_first (x ∷ text) = by-head (eqb x lf) (after_first text)
  where
    by-head :
        (t : Bool) → text ≡ first_line text ++ drop (length (first_line text)) text →
        x ∷ text ≡ if t (x ∷ []) (x ∷ first_line text) ++ drop (length (if t (x ∷ []) (x ∷ first_line text))) (x ∷ text)
    by-head true e = refl
    by-head false e = ap (λ t. x ∷ t) e

-- where a text begins with no word's line, its first line is no word's
pub first-line-bad : (rest : List ℕ) → NoLine rest → (w : ℕ) → w < 65536 → first_line rest ≡ text_line w → ⊥
first-line-bad rest p w h e = p w (drop (length (first_line rest)) rest) h (after_first rest ∙ ap (λ t. t ++ drop (length (first_line rest)) rest) e)

-- the first line of a text that begins with a word's line is that line
first-unbroken : (l more : List ℕ) → broken l ≡ false → first_line (l ++ lf ∷ more) ≡ l ++ lf ∷ []
first-unbroken [] more e = refl
first-unbroken (x ∷ l) more e = by-head (eqb x lf) e (first-unbroken l more)
  where
    by-head :
        (t : Bool) → if t true (broken l) ≡ false → (broken l ≡ false → first_line (l ++ lf ∷ more) ≡ l ++ lf ∷ []) →
        if t (x ∷ []) (x ∷ first_line (l ++ lf ∷ more)) ≡ x ∷ (l ++ lf ∷ [])
    by-head true f tail = cc
    by-head false f tail = ap (λ t. x ∷ t) (tail f)

pub first-line-word : (w : ℕ) (more : List ℕ) → first_line (text_line w ++ more) ≡ text_line w
first-line-word w more = rw (ended w, append_assoc) (first-unbroken (text_by (kind_of w) w) more (unbroken w))

-- so where the first line is no word's, the text begins with no word's line
pub bad-first-line : (rest : List ℕ) → ((w : ℕ) → w < 65536 → first_line rest ≡ text_line w → ⊥) → NoLine rest
bad-first-line rest p w more h e = p w h (ap first_line e ∙ first-line-word w more)
