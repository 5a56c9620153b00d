-- Words in RAM by their number, and the mended words beside them.
use mathlib.Core.Path.{◌≡◌, refl, ◌∙◌}
use mathlib.Core.Bool.{Bool, true, false}
use mathlib.Core.List.{List, [], ◌∷◌, map}
use Prim.Native.Nat.{ℕ, zero, suc, ◌+◌, ◌*◌, ◌<◌}
use native.Mathlib.Omega.{arith}
use lib.ListN.{length, length-append, length-map, get_or, get_or-append, get_or-map}
use lib.Seq.{get_or_at}
use Rattle.common.specs.Choice.{either}
use Rattle.words.specs.Words.{kind_of, stops, has_stop}
use Rattle.sound.specs.Channels.{word_at}
use Rattle.mend.specs.Rule.{mended, stop, added_stop, mended_words}
use Rattle.forecast.specs.Rule.{Has}

-- a word by its number
pub word_number : (ram : List ℕ) (a : ℕ) (ws : List ℕ) → Has ram a ws → (i : ℕ) → i < length ws → word_at ram (a + i * 2) ≡ get_or ws i 0
word_number ram a [] h i l = absurd (omega arith)
word_number ram a (w ∷ ws) h zero l = let e : a + 0 * 2 ≡ a = omega arith in rw e h.0
word_number ram a (w ∷ ws) h (suc i) l =
    let e : a + suc i * 2 ≡ a + 2 + i * 2 = omega arith in
    rw e (word_number ram (a + 2) ws h.1 i (omega arith))

-- how many the mended words are
pub mended-length : (ws : List ℕ) → length (mended_words ws) ≡ length ws + length (added_stop ws)
unfolding mended_words
mended-length ws = rw (length-append (map mended ws) (added_stop ws), length-map ws mended)

module _ (ram other : List ℕ) (start : ℕ) (ws : List ℕ) (old : Has ram start ws) (new : Has other start (mended_words ws)) where
  -- each of the words in use is mended
  pub word-mended : (i : ℕ) → i < length ws → word_at other (start + i * 2) ≡ mended (word_at ram (start + i * 2))
  unfolding mended_words mended kind_of
  word-mended i l =
      let m : i < length (map mended ws) = omega (arith, length-map ws mended) in
      word_number other start (mended_words ws) new i (omega (arith, mended-length ws))
      ∙ get_or-append (map mended ws) (added_stop ws) 0 i m
      ∙ get_or-map mended ws i 0
      ∙ rw (word_number ram start ws old i l)

  -- and after the last stands the added STOP
  pub stop-added : has_stop ws ≡ false → word_at other (start + length ws * 2) ≡ stop
  unfolding mended_words
  stop-added h =
      let e : length (added_stop ws) ≡ 1 = rw h in
      word_number other start (mended_words ws) new (length ws) (omega (arith, mended-length ws, e))
      ∙ rw h (get_or_at (map mended ws) stop [] 0 (length ws) (length-map ws mended))

-- ---- the STOP among the words
pub record StopAt (ws : List ℕ) : Type 0 where
  pub place : ℕ
  pub below : place < length ws
  pub stands : stops (get_or ws place 0) ≡ true

pub stop-at : (ws : List ℕ) → has_stop ws ≡ true → StopAt ws
unfolding has_stop
stop-at [] h = let z : ◌≡◌ {A = ℕ} 0 1 = cc in absurd (omega arith)
stop-at (w ∷ ws) h = by_word (stops w) refl (λ f. stop-at ws f) h
  where
    by_word : (b : Bool) → stops w ≡ b → (has_stop ws ≡ true → StopAt ws) → either b (has_stop ws) ≡ true → StopAt (w ∷ ws)
    by_word true e rest f = record { place = 0; below = omega arith; stands = e }
    by_word false e rest f = let r = rest f in record { place = suc r.place; below = omega (arith, r.below); stands = r.stands }

pub no_stop : (ws : List ℕ) → has_stop ws ≡ false → (i : ℕ) → i < length ws → stops (get_or ws i 0) ≡ false
unfolding has_stop
no_stop [] h i l = absurd (omega arith)
no_stop (w ∷ ws) h zero l = by_word (stops w) h
  where
    by_word : (b : Bool) → either b (has_stop ws) ≡ false → b ≡ false
    by_word true e = e
    by_word false e = refl
no_stop (w ∷ ws) h (suc i) l = no_stop ws (by_word (stops w) h) i (omega arith)
  where
    by_word : (b : Bool) → either b (has_stop ws) ≡ false → has_stop ws ≡ false
    by_word true e = cc
    by_word false e = e
