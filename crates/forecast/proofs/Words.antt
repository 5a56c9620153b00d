-- The words of a list from one of its addresses on, where a STOP stands among them.
use mathlib.Core.Path.{◌≡◌, refl, ap}
use mathlib.Core.Bool.{Bool, true, false}
use mathlib.Core.List.{List, [], ◌∷◌}
use Prim.Native.Nat.{ℕ, zero, suc, ◌+◌, ◌-◌, ◌*◌, ◌/◌, ◌%◌, ◌<◌, ◌≤◌}
use native.Mathlib.Omega.{arith}
use lib.ListN.{length, get_or, drop}
use Rattle.std.proofs.lemmas.List.{get_or-take, get_or-drop}
use Rattle.std.specs.Simd.{first_chunks}
use Rattle.common.proofs.Chunks.{chunk-at}
use Rattle.sound.specs.Channels.{word_at}
use Rattle.words.specs.Words.{stops, has_stop}
use Rattle.forecast.specs.Rule.{words_from, words_of}

-- where a STOP stands there is a word
pub some_word : (ws : List ℕ) → has_stop ws ≡ true → 0 < length ws
unfolding has_stop
some_word [] h = let z : ◌≡◌ {A = ℕ} 0 1 = cc in omega arith
some_word (w ∷ ws) h = omega arith

module _ (ram : List ℕ) where
  -- the pairs of bytes that the code takes RAM as, from an address on, are its words, low byte first
  pub pair-word :
      (a n i w : ℕ) → (pair bytes : List ℕ) → bytes ≡ drop a ram → i < n → a + n * 2 ≤ 65536 → pair ≡ get_or (first_chunks 2 n bytes) i [] →
      w ≡ get_or pair 0 0 + get_or pair 1 0 * 256 → w ≡ word_at ram (a + i * 2)
  unfolding word_at
  pair-word a n i w pair bytes b l h p e =
      let m : (a + i * 2 + 1) % 65536 ≡ a + i * 2 + 1 = omega arith in
      let first : 0 < 2 = omega arith in
      let second : 1 < 2 = omega arith in
      let none : a + (i * 2 + 0) ≡ a + i * 2 = omega arith in
      let one : a + (i * 2 + 1) ≡ a + i * 2 + 1 = omega arith in
      rw (e, p, b, chunk-at 2 n (drop a ram) i l, m) (simp (get_or-take, get_or-drop, none, one) (omega arith))

  -- at least two bytes are left where a STOP stands ahead
  pub room : (a : ℕ) → has_stop (words_of ram a) ≡ true → a + 2 ≤ 65536
  unfolding words_of words_from has_stop
  room a h = by_count ((65536 - a) / 2) refl h
    where
      by_count : (n : ℕ) → (65536 - a) / 2 ≡ n → has_stop (words_from ram n a) ≡ true → a + 2 ≤ 65536
      by_count zero e f = let z : ◌≡◌ {A = ℕ} 0 1 = cc in omega arith
      by_count (suc n) e f = omega arith

  -- beyond FFFEh stands no word
  pub words_end : (a : ℕ) → 65535 ≤ a → words_of ram a ≡ []
  unfolding words_of words_from
  words_end a h = let e : (65536 - a) / 2 ≡ 0 = omega arith in rw e

  -- the first of the words, then none or those from the next address
  pub words-stop : (a : ℕ) → a + 2 ≤ 65536 → stops (word_at ram a) ≡ true → words_of ram a ≡ word_at ram a ∷ []
  unfolding words_of words_from
  words-stop a r s = let e : (65536 - a) / 2 ≡ suc ((65536 - (a + 2)) / 2) = omega arith in rw e (simp s)

  pub words_more :
      (a : ℕ) → a + 2 ≤ 65536 → stops (word_at ram a) ≡ false → words_of ram a ≡ word_at ram a ∷ words_of ram (a + 2)
  unfolding words_of words_from
  words_more a r s = let e : (65536 - a) / 2 ≡ suc ((65536 - (a + 2)) / 2) = omega arith in rw e (simp s)

  -- a STOP ahead stands behind a word that is none
  pub stop-next :
      (a : ℕ) → stops (word_at ram a) ≡ false → has_stop (words_of ram a) ≡ true → has_stop (words_of ram (a + 2)) ≡ true
  unfolding has_stop
  stop-next a s h = simp s at (rw (words_more a (room a h) s) at h)

  module _ (start : ℕ) where
    -- word number i of a list: a STOP stands at it or ahead, and the list is as long as it says
    pub record At (i : ℕ) : Type 0 where
      pub stop : has_stop (words_of ram (start + i * 2)) ≡ true
      pub long : length (words_of ram start) ≡ i + length (words_of ram (start + i * 2))

    pub at-start : has_stop (words_of ram start) ≡ true → At 0
    at-start h = let e : start + 0 * 2 ≡ start = omega arith in record { stop = rw e h; long = rw e (omega arith) }

    pub at_next : (i : ℕ) → At i → stops (word_at ram (start + i * 2)) ≡ false → At (suc i)
    at_next i p s =
        let e : start + suc i * 2 ≡ start + i * 2 + 2 = omega arith in
        let l : length (words_of ram (start + i * 2)) ≡ suc (length (words_of ram (start + i * 2 + 2))) = ap length (words_more (start + i * 2) (room _ p.stop) s) in
        record { stop = rw e (stop-next _ s p.stop); long = rw e (omega (arith, p.long, l)) }

    pub at-word : has_stop (words_of ram start) ≡ true → (i : ℕ) → i < length (words_of ram start) → At i
    at-word h zero l = at-start h
    at-word h (suc i) l = by_word (stops (word_at ram (start + i * 2))) refl (at-word h i (omega arith))
      where
        by_word : (b : Bool) → stops (word_at ram (start + i * 2)) ≡ b → At i → At (suc i)
        by_word true s p =
            let e : length (words_of ram (start + i * 2)) ≡ 1 = ap length (words-stop (start + i * 2) (room _ p.stop) s) in
            absurd (omega (arith, p.long, e, l))
        by_word false s p = at_next i p s

    pub at-within : (i : ℕ) → At i → i < length (words_of ram start)
    at-within i p = omega (arith, p.long, some_word _ p.stop)
