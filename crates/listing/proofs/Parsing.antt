-- What a text reads as: every text is the lines of one list of words and one rest.
use Rattle.std.proofs.Common.{◌≡◌, refl, ap, sym, ◌∙◌, Bool, true, false, List, [], ◌∷◌, ◌++◌, append_assoc, append-nil, ℕ, zero, suc, ◌≤◌, ◌<◌, arith, ltb-true, ltb-false, ltb, length, drop, length-append}
use Rattle.common.specs.Lists.{begins}
use Rattle.common.proofs.Begins.{begins-with, begins-true}
use Rattle.mnemonic.specs.Mnemonic.{text_line}
use Rattle.guess.specs.Guess.{guess_of}
use Rattle.mnemonic.proofs.Lines.{some}
use Rattle.guess.proofs.Guessing.{guessed, same_word, same_rest}
use Rattle.listing.specs.Text.{text_of, Words, NoLine, Parsed}

once :
    (ws vs r s : List ℕ) → Words ws → Words vs → NoLine r → NoLine s → text_of ws ++ r ≡ text_of vs ++ s → (ws ≡ vs) × (r ≡ s)
once [] [] r s a b p q e = (refl, e)
once [] (v ∷ vs) r s a b p q e = absurd (p v (text_of vs ++ s) b.0 (e ∙ append_assoc (text_line v) (text_of vs) s))
once (w ∷ ws) [] r s a b p q e = absurd (q w (text_of ws ++ r) a.0 (sym e ∙ append_assoc (text_line w) (text_of ws) r))
once (w ∷ ws) (v ∷ vs) r s a b p q e =
    let f : text_line w ++ (text_of ws ++ r) ≡ text_line v ++ (text_of vs ++ s) = sym (append_assoc (text_line w) (text_of ws) r) ∙ e ∙ append_assoc (text_line v) (text_of vs) s in
    let x = same_word w v (text_of ws ++ r) (text_of vs ++ s) a.0 b.0 f in
    let y = once ws vs r s a.1 b.1 p q (same_rest w v (text_of ws ++ r) (text_of vs ++ s) a.0 b.0 f) in
    (cc, y.1)

-- the words and the rest are unique
pub parsed-once : {text ws vs r s : List ℕ} → Parsed text ws r → Parsed text vs s → (ws ≡ vs) × (r ≡ s)
parsed-once {ws = ws} {vs} {r} {s} p q = once ws vs r s p.each q.each p.stops q.stops (sym p.whole ∙ q.whole)

-- no line begins the empty text
pub no_line-none : NoLine []
no_line-none w more h e = omega (arith, some w, simp length-append at (ap length e))

-- the text of words reads as these words
pub text_parses : (ws : List ℕ) → Words ws → Parsed (text_of ws) ws []
text_parses ws a = record { whole = sym (append-nil (text_of ws)); each = a; stops = no_line-none }

-- a text begins with the line of a word, or with none
data First (text : List ℕ) : Type 0 where
  one : (w : ℕ) → w < 65536 → text ≡ text_line w ++ drop (length (text_line w)) text → First text
  none : NoLine text → First text

first : (text : List ℕ) → First text
first text = by_word (ltb (guess_of text) 65536) refl
  where
    never : ((more : List ℕ) → guess_of text < 65536 → text ≡ text_line (guess_of text) ++ more → ⊥) → First text
    never f =
        none (λ w more h e.
        let g : guess_of text ≡ w = ap guess_of e ∙ guessed w more h in
        f more (rw g h) (rw g e))

    by-line : guess_of text < 65536 → (t : Bool) → begins (text_line (guess_of text)) text ≡ t → First text
    by-line h true e = one (guess_of text) h (begins-true (text_line (guess_of text)) text e)
    by-line h false e =
        never (λ more g f.
        let t : begins (text_line (guess_of text)) text ≡ true = ap (begins (text_line (guess_of text))) f ∙ begins-with (text_line (guess_of text)) more in
        cc)

    by_word : (t : Bool) → ltb (guess_of text) 65536 ≡ t → First text
    by_word true e = by-line (ltb-true (guess_of text) 65536 e) (begins (text_line (guess_of text)) text) refl
    by_word false e = never (λ more g f. omega (arith, ltb-false (guess_of text) 65536 e))

-- a text's words and its rest
pub record Parts (text : List ℕ) : Type 0 where
  pub words : List ℕ
  pub rest : List ℕ
  pub parsed : Parsed text words rest

-- those of a text by those of a shorter one
parts : (text : List ℕ) → First text → ((later : List ℕ) → length later < length text → Parts later) → Parts text
parts text (none s) shorter = record { words = []; rest = text; parsed = record { whole = refl; each = tt; stops = s } }
parts text (one w b e) shorter =
    let later = drop (length (text_line w)) text in
    let p = shorter later (omega (arith, some w, simp length-append at (ap length e))) in
    record {
      words = w ∷ p.words;
      rest = p.rest;
      parsed =
          record {
            whole = e ∙ ap (λ t. text_line w ++ t) p.parsed.whole ∙ sym (append_assoc (text_line w) (text_of p.words) p.rest);
            each = (b, p.parsed.each);
            stops = p.parsed.stops;
          };
    }

parses-within : (n : ℕ) (text : List ℕ) → length text ≤ n → Parts text
parses-within zero text h = parts text (first text) (λ later g. absurd (omega arith))
parses-within (suc n) text h = parts text (first text) (λ later g. parses-within n later (omega arith))

-- every text has them
pub parses : (text : List ℕ) → Parts text
parses text = parses-within (length text) text (omega arith)

abbrev pub words_of : List ℕ → List ℕ
words_of text = (parses text).words

abbrev pub rest_of : List ℕ → List ℕ
rest_of text = (parses text).rest
