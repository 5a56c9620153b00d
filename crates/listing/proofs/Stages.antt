-- How far a text is read: the passes that check it and store its words.
use Rattle.std.proofs.Common.{◌≡◌, ℕ, zero, suc, ◌+◌, ◌<◌, ◌≤◌, List, [], ◌∷◌, ◌++◌, length, take, drop, get_or, set, sym, ap, ◌∙◌, arith, append_assoc, length-append, add-one, drop-cons, drop_at, le_of_suc-le-suc}
use Rattle.std.specs.Prelude.{◌≢◌, Ok, Err}
use Rattle.std.proofs.lemmas.List.{append_cancel_left, drop_all, nil_from_length, take_all, take_more, take_more_set}
use Rattle.common.proofs.Order.{either_side}
use Rattle.mnemonic.specs.Mnemonic.{text_line}
use Rattle.guess.specs.Guess.{guess_of}
use Rattle.mnemonic.proofs.Lines.{some}
use Rattle.guess.proofs.Guessing.{guessed}
use Rattle.listing.specs.Text.{text_of, Words, Parsed}
use Rattle.listing.specs.Passes.{lines_of, Checked, Listed}
use Rattle.listing.proofs.Parsing.{parsed-once, parses, words_of, rest_of}

words-at : (ws : List ℕ) (i : ℕ) → Words ws → i < length ws → get_or ws i 0 < 65536
words-at [] i a h = absurd (omega arith)
words-at (w ∷ ws) zero a h = a.0
words-at (w ∷ ws) (suc i) a h = words-at ws i a.1 (le_of_suc-le-suc h)

bad_lines : (ws rest : List ℕ) (i : ℕ) → i ≡ length ws → 0 < length rest → Err (record { 0 = i + 1 }) ≡ lines_of ws rest
bad_lines ws [] i e h = absurd (omega arith)
bad_lines ws (x ∷ rest) i e h = rw e

-- what is left of a text behind the lines of its first i words
pub record Stage (text rest : List ℕ) (i : ℕ) : Type 0 where
  pub left : rest ≡ text_of (drop i (words_of text)) ++ rest_of text
  pub within : i ≤ length (words_of text)

module _ {text rest : List ℕ} {i : ℕ} (s : Stage text rest i) where
  -- past the last word
  no_word : length (words_of text) ≤ i → rest ≡ rest_of text
  no_word h = s.left ∙ rw (drop_all i (words_of text) h)

  -- what is behind the line of the next word
  abbrev behind : List ℕ
  behind = text_of (drop (i + 1) (words_of text)) ++ rest_of text

  module _ (h : i < length (words_of text)) where
    next-line : rest ≡ text_line (get_or (words_of text) i 0) ++ behind
    next-line =
        s.left ∙ rw (drop-cons (words_of text) i 0 h, add-one) (append_assoc (text_line (get_or (words_of text) i 0)) _ (rest_of text))

    next : {later : List ℕ} → later ≡ behind → Stage text later (i + 1)
    next e = record { left = e; within = omega arith }

    -- it is the word that is guessed
    module _ {word : ℕ} (g : word ≡ guess_of rest) where
      pub word-is : word ≡ get_or (words_of text) i 0
      word-is = g ∙ ap guess_of next-line ∙ guessed _ _ (words-at (words_of text) i (parses text).parsed.each h)

      pub line_first : rest ≡ text_line word ++ behind
      line_first = next-line ∙ ap (λ w. text_line w ++ behind) (sym word-is)

      pub passed : {n : ℕ} {later : List ℕ} → n ≡ length (text_line word) → later ≡ drop n rest → Stage text later (i + 1)
      passed {n} e f = next (f ∙ ap (drop n) line_first ∙ drop_at (text_line word) behind n (sym e))

  module _ {word : ℕ} (g : word ≡ guess_of rest) where
    -- a text that goes on with the line of a word has a next word
    found : (later : List ℕ) → word < 65536 → rest ≡ text_line word ++ later → i < length (words_of text)
    found later b e =
        either_side i (length (words_of text)) (λ h. h)
        (λ h. absurd ((parses text).parsed.stops word _ b (sym (no_word h) ∙ e)))

    pub stripped : {later : List ℕ} → word < 65536 → rest ≡ text_line word ++ later → Stage text later (i + 1)
    stripped {later} b e =
        let h = found later b e in
        next h (append_cancel_left (text_line word) later behind (sym e ∙ line_first h g))

    -- one that does not go on with the line of its guess has none
    not_found : ((more : List ℕ) → rest ≢ text_line word ++ more) → length (words_of text) ≤ i
    not_found n = either_side i (length (words_of text)) (λ h. absurd (n behind (line_first h g))) (λ h. h)

    pub bad-line :
        ((more : List ℕ) → rest ≢ text_line word ++ more) → 0 < length rest → Checked text (Err (record { 0 = i + 1 }))
    bad-line n h =
        let done = not_found n in
        record {
          words = words_of text;
          rest = rest_of text;
          parsed = (parses text).parsed;
          lines = bad_lines (words_of text) (rest_of text) i (omega (arith, s.within)) (rw (no_word done) at h);
        }

  -- at the end of the text no word and no rest is left
  all_read : length rest ≡ 0 → (i ≡ length (words_of text)) × (rest_of text ≡ [])
  all_read e =
      either_side i (length (words_of text))
      (λ h. absurd (omega (arith, some (get_or (words_of text) i 0), simp length-append at (ap length (next-line h)))))
      (λ h. (omega (arith, s.within), nil_from_length (rest_of text) (ap length (sym (no_word h)) ∙ e)))

  pub no_bad-line : length rest ≡ 0 → Checked text (Ok i)
  no_bad-line e =
      record {
        words = words_of text;
        rest = rest_of text;
        parsed = (parses text).parsed;
        lines = rw ((all_read e).0, (all_read e).1);
      }

-- a text that is all lines of words has no rest, and as many words
pub listed : {text : List ℕ} {count : ℕ} → Listed text count → (rest_of text ≡ []) × (count ≡ length (words_of text))
listed {text} l =
    let e = parsed-once (parses text).parsed l.parsed in
    (e.1, l.counted ∙ ap length (sym e.0))

-- one word more is stored, and all are
pub stored_more :
    (ws places : List ℕ) (i : ℕ) {word : ℕ} → i < length ws → i < length places → word ≡ get_or ws i 0 →
    take i places ≡ take i ws → take (i + 1) (set places i word) ≡ take (i + 1) ws
stored_more ws places i h g e f = rw (take_more_set places i _ g, take_more ws i 0 h, e, f)

pub all-stored :
    {text places : List ℕ} {i count : ℕ} → Listed text count → length places ≡ count → take i places ≡ take i (words_of text) → count ≤ i →
    Parsed text places []
all-stored {text} {places} {i} l n e h =
    let whole : places ≡ words_of text = sym (take_all i places (omega arith)) ∙ e ∙ take_all i (words_of text) (omega (arith, (listed l).1)) in
    rw whole (rw (listed l).0 at (parses text).parsed)
