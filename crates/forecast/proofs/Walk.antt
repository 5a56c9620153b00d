-- A walk over the words of a list: where it ends, and how many bytes it takes.
use mathlib.Core.Path.{◌≡◌, refl, sym, ◌∙◌}
use mathlib.Core.Bool.{Bool, true, false}
use mathlib.Core.List.{List, [], ◌∷◌}
use Prim.Native.Nat.{ℕ, zero, suc, ◌+◌, ◌-◌, ◌*◌, ◌/◌, ◌<◌, ◌≤◌}
use native.Mathlib.Nat.{add-zero}
use native.Mathlib.Omega.{arith}
use lib.ListN.{length}
use Rattle.sound.specs.Channels.{word_at}
use Rattle.words.specs.Words.{stops, has_stop}
use Rattle.forecast.specs.Rule.{words_from, words_of}
use Rattle.forecast.proofs.Words.{words_end, words-stop, words_more}

-- a walk from one address on over words that are no STOP: the list ends where it did, at a STOP or at none
pub record Walked (ram : List ℕ) (first a : ℕ) : Type 0 where
  pub inside : a ≤ 65536
  pub past : first ≤ a
  pub stop : has_stop (words_of ram a) ≡ has_stop (words_of ram first)
  pub bytes : a + length (words_of ram a) * 2 ≡ first + length (words_of ram first) * 2

module _ (ram : List ℕ) (first : ℕ) where
  -- before the first word
  pub walked_none : first ≤ 65536 → Walked ram first first
  walked_none h = record { inside = h; past = omega arith; stop = refl; bytes = refl }

  module _ (a : ℕ) (i : Walked ram first a) where
    -- past a word that is no STOP
    pub walked_more : a + 2 ≤ 65536 → stops (word_at ram a) ≡ false → Walked ram first (a + 2)
    unfolding has_stop
    walked_more h s =
        record {
          inside = omega arith;
          past = omega arith;
          stop = simp (words_more ram a h s, s) at i.stop;
          bytes = omega (arith, simp (words_more ram a h s) at i.bytes);
        }

    -- at the STOP
    pub walked_stop : a + 2 ≤ 65536 → stops (word_at ram a) ≡ true → has_stop (words_of ram first) ≡ true
    unfolding has_stop
    walked_stop h s = sym i.stop ∙ simp (words-stop ram a h s, s)

    pub walked-bytes : a + 2 ≤ 65536 → stops (word_at ram a) ≡ true → first + length (words_of ram first) * 2 ≡ a + 2
    walked-bytes h s = sym i.bytes ∙ simp (words-stop ram a h s)

    -- beyond FFFEh
    pub walked_end : 65535 ≤ a → has_stop (words_of ram first) ≡ false
    unfolding has_stop
    walked_end h = sym i.stop ∙ simp (words_end ram a h)

  -- past so many words that are no STOP
  pub walked_past :
      first ≤ 65536 → (i : ℕ) → first + i * 2 ≤ 65536 → ((k : ℕ) → k < i → stops (word_at ram (first + k * 2)) ≡ false) →
      Walked ram first (first + i * 2)
  walked_past r zero h f = rw add-zero (walked_none r)
  walked_past r (suc i) h f =
      let e : first + suc i * 2 ≡ first + i * 2 + 2 = omega arith in
      rw e (walked_more (first + i * 2) (walked_past r i (omega arith) (λ k l. f k (omega arith))) (omega arith) (f i (omega arith)))

-- the words end at FFFEh
words-length : (ram : List ℕ) (n a : ℕ) → length (words_from ram n a) ≤ n
unfolding words_from
words-length ram zero a = omega arith
words-length ram (suc n) a = by-stop (stops (word_at ram a)) (words-length ram n (a + 2))
  where
    by-stop :
        (b : Bool) → length (words_from ram n (a + 2)) ≤ n →
        length (word_at ram a ∷ elim b [ true ↦ [] | false ↦ words_from ram n (a + 2) ]) ≤ suc n
    by-stop true h = omega arith
    by-stop false h = omega arith

pub words_inside : (ram : List ℕ) (a : ℕ) → a ≤ 65536 → a + length (words_of ram a) * 2 ≤ 65536
unfolding words_of
words_inside ram a h = omega (arith, words-length ram ((65536 - a) / 2) a)
