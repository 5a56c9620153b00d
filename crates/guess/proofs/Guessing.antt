-- A text that begins with the line of a word is guessed to be that word's.
use Rattle.std.proofs.Common.{◌≡◌, refl, ap, sym, ◌∙◌, true, false, List, [], ◌∷◌, ◌++◌, append_assoc, ℕ, zero, suc, ◌+◌, ◌/◌, ◌%◌, ◌^◌, ◌<◌, arith, ltb, length, drop, get_or, replicate, get_or-drop, lt-ltb, le-ltb}
use Rattle.std.proofs.Math.Seq.{drop-append_seam}
use Rattle.words.specs.Words.{low12}
use Rattle.common.proofs.Order.{either_side}
use Rattle.digits.specs.Digits.{glyph, digits, decimal}
use Rattle.mnemonic.specs.Mnemonic.{lf, text_line, longest_line}
use Rattle.guess.specs.Guess.{digits_value, decimal_of, guess_load, guess_of}
use Rattle.digits.proofs.Digits.{glyph-above, one, two, three, four}
use Rattle.guess.proofs.Values.{read}
use Rattle.mnemonic.proofs.Lines.{by_form}

-- the character of a digit is not below 0's
above : (d : ℕ) → ltb (glyph d) 48 ≡ false
above d = le-ltb (glyph d) 48 (glyph-above d)

-- a decimal number is read, whatever lower character follows
pub decimal-read : (n x : ℕ) (r : List ℕ) → n < 10000 → x < 48 → decimal_of (decimal n ++ x ∷ r) ≡ n
unfolding decimal_of
decimal-read n x r h l =
    let small : ltb x 48 ≡ true = lt-ltb x 48 l in
    let ten : (k : ℕ) → n < 10 ^ suc k → digits_value 10 k (digits 10 (suc k) n ++ x ∷ r) ≡ n = λ k. read 10 k n (x ∷ r) (omega arith) (omega arith) in
    either_side n 10
    (λ a. rw (one n a) (simp small (ten 0 a)))
    (λ b. either_side n 100
    (λ a. rw (two n b a) (simp (above, small) (ten 1 a)))
    (λ b. either_side n 1000
    (λ a. rw (three n b a) (simp (above, small) (ten 2 a)))
    (λ b. rw (four n b) (simp above (ten 3 h)))))

-- the guess of a text that begins with a word's line is that word
pub guessed : (w : ℕ) (r : List ℕ) → w < 65536 → guess_of (text_line w ++ r) ≡ w
unfolding text_line guess_of guess_load
guessed w r h =
    by_form (λ v t. guess_of ((t ++ lf ∷ []) ++ r) ≡ v) w
    (λ e.
    let low = read 16 1 (w % 256) (lf ∷ r) (omega arith) (omega arith) (omega arith) in
    either_side (w / 256) 10
    (λ a. rw (one (w / 256) a) (omega (arith, low, read 10 0 (w / 256) [] (omega arith) (omega arith) a)))
    (λ b. rw (two (w / 256) b (omega arith)) (simp above (omega (arith, low, read 10 1 (w / 256) [] (omega arith) (omega arith) (omega arith))))))
    (λ e. simp append_assoc (omega (arith, decimal-read (low12 w) 10 r (omega arith) (omega arith))))
    (λ e. simp append_assoc (omega (arith, decimal-read (low12 w) 10 r (omega arith) (omega arith))))
    (omega (arith, read 16 3 w (lf ∷ r) (omega arith) (omega arith) h))
    refl refl refl refl refl refl refl refl

-- only the bytes of a longest line are looked at
pub same_guess : (s t : List ℕ) → ((i : ℕ) → i < longest_line → get_or s i 0 ≡ get_or t i 0) → guess_of s ≡ guess_of t
unfolding guess_of guess_load decimal_of
same_guess s t h =
    simp (
      get_or-drop,
      h 0 (omega arith),
      h 2 (omega arith),
      h 3 (omega arith),
      h 4 (omega arith),
      h 5 (omega arith),
      h 6 (omega arith),
      h 7 (omega arith),
      h 8 (omega arith),
      h 9 (omega arith),
      h 10 (omega arith),
    )

-- a short text with zeros after it has the same bytes
zeros : (n i : ℕ) → ◌≡◌ {A = ℕ} (get_or (replicate n 0) i 0) 0
zeros zero i = refl
zeros (suc n) zero = refl
zeros (suc n) (suc i) = zeros n i

zero_end : (s t : List ℕ) (i : ℕ) → ((j : ℕ) → get_or t j 0 ≡ 0) → get_or (s ++ t) i 0 ≡ get_or s i 0
zero_end [] t i z = z i
zero_end (x ∷ s) t zero z = refl
zero_end (x ∷ s) t (suc i) z = zero_end s t i z

pub padded : (s : List ℕ) (n i : ℕ) → get_or (s ++ drop n (replicate longest_line 0)) i 0 ≡ get_or s i 0
padded s n i =
    let room : List ℕ = replicate longest_line 0 in
    zero_end s (drop n room) i (λ j. get_or-drop n room j 0 ∙ zeros longest_line (n + j))

-- texts that are the same and begin with the lines of words begin with the same word's; what follows is the same too
module _ (w v : ℕ) (r s : List ℕ) (h : w < 65536) (g : v < 65536) (e : text_line w ++ r ≡ text_line v ++ s) where
  pub same_word : w ≡ v
  same_word = sym (guessed w r h) ∙ ap guess_of e ∙ guessed v s g

  pub same_rest : r ≡ s
  same_rest =
      let f : text_line v ++ r ≡ text_line v ++ s = rw same_word at e in
      sym (drop-append_seam (text_line v) r) ∙ ap (drop (length (text_line v))) f ∙ drop-append_seam (text_line v) s

-- no two words have the same line
pub one_word : (w v : ℕ) → w < 65536 → v < 65536 → text_line w ≡ text_line v → w ≡ v
one_word w v h g e = same_word w v [] [] h g (ap (λ l. l ++ []) e)
