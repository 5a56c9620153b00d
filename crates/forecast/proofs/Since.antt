-- The words since a mark: what they cost, and what is ahead from the mark as against from where they end.
use mathlib.Core.Path.{◌≡◌}
use mathlib.Core.Bool.{true, false}
use mathlib.Core.List.{List}
use Prim.Native.Nat.{ℕ, zero, suc, ◌+◌, ◌-◌, ◌*◌, ◌/◌, ◌<◌, ◌≤◌}
use native.Mathlib.Omega.{arith}
use borrow.Author.Count.{below_more}
use Rattle.sound.specs.Channels.{word_at}
use Rattle.words.specs.Words.{stops, loops, repeats}
use Rattle.forecast.specs.Rule.{words_of}
use Rattle.forecast.specs.Left.{cost_from, cost_between, ahead}
use Rattle.forecast.proofs.Playing.{Plain, Since}
use Rattle.forecast.proofs.Ahead.{ahead-plain, ahead-loop}
use Rattle.forecast.proofs.Words.{words_more}

module _ (cost : ℕ → ℕ) (ram : List ℕ) where
  -- one more word at the end
  pub cost-more : (n a : ℕ) → cost_from cost ram (suc n) a ≡ cost_from cost ram n a + cost (word_at ram (a + n * 2))
  unfolding cost_from
  cost-more zero a = let e : a + 0 * 2 ≡ a = omega arith in rw e (omega arith)
  cost-more (suc n) a =
      let e : a + suc n * 2 ≡ a + 2 + n * 2 = omega arith in
      rw e (omega (arith, cost-more n (a + 2)))

  -- between an address and itself nothing stands
  pub between_none : (a : ℕ) → cost_between cost ram a a ≡ 0
  unfolding cost_from
  between_none a = let e : (a - a) / 2 ≡ 0 = omega arith in rw e

  -- so many words between
  pub between : (n a : ℕ) → cost_between cost ram a (a + n * 2) ≡ cost_from cost ram n a
  between n a = let e : (a + n * 2 - a) / 2 ≡ n = omega arith in rw e

  pub between_more : (n a : ℕ) → cost_between cost ram a (a + n * 2 + 2) ≡ cost_between cost ram a (a + n * 2) + cost (word_at ram (a + n * 2))
  between_more n a =
      let e : a + n * 2 + 2 ≡ a + suc n * 2 = omega arith in
      rw (e, between (suc n) a, between n a) (cost-more n a)

  -- past plain words, which are then since the mark
  pub ahead_past :
      (k n a s : ℕ) → a + n * 2 + 2 ≤ 65536 → ((i : ℕ) → i < n → Plain (word_at ram (a + i * 2))) →
      ahead cost k s (words_of ram a) ≡ cost_from cost ram n a + ahead cost k (s + cost_from cost ram n a) (words_of ram (a + n * 2))
  unfolding cost_from
  ahead_past k zero a s r p = let e : a + 0 * 2 ≡ a = omega arith in let f : s + 0 ≡ s = omega arith in rw (e, f) (omega arith)
  ahead_past k (suc n) a s r p =
      let at : (i : ℕ) → a + suc i * 2 ≡ a + 2 + i * 2 = λ i. omega arith in
      let here : a + 0 * 2 ≡ a = omega arith in
      let w : Plain (word_at ram a) = rw here at (p 0 (omega arith)) in
      let sum : s + (cost (word_at ram a) + cost_from cost ram n (a + 2)) ≡ s + cost (word_at ram a) + cost_from cost ram n (a + 2) = omega arith in
      rw (words_more ram a (omega arith) w.stop, at n, sum, ahead-plain cost k s (word_at ram a) (words_of ram (a + 2)) w.stop w.loop w.repeat)
      (omega (arith, ahead_past k n (a + 2) (s + cost (word_at ram a)) (omega arith) (λ i l. rw (at i) at (p (suc i) (omega arith)))))

  -- a LOOP with passes left: what is ahead from the mark, and the LOOP itself
  pub ahead-back :
      (k n a : ℕ) → a + n * 2 + 2 ≤ 65536 → ((i : ℕ) → i < n → Plain (word_at ram (a + i * 2))) →
      stops (word_at ram (a + n * 2)) ≡ false → loops (word_at ram (a + n * 2)) ≡ true → repeats (word_at ram (a + n * 2)) ≡ false →
      ahead cost (suc k) (cost_between cost ram a (a + n * 2)) (words_of ram (a + n * 2)) ≡ cost (word_at ram (a + n * 2)) + ahead cost k 0 (words_of ram a)
  ahead-back k n a r p s l e =
      rw (between n a, ahead_past k n a 0 r p, words_more ram (a + n * 2) r s)
      (omega (
        arith,
        ahead-loop cost (suc k) (cost_from cost ram n a) (word_at ram (a + n * 2)) (words_of ram (a + n * 2 + 2)) s l e,
        ahead-loop cost k (0 + cost_from cost ram n a) (word_at ram (a + n * 2)) (words_of ram (a + n * 2 + 2)) s l e,
      ))

module _ (ram : List ℕ) (start passed : ℕ) where
  -- the mark is so many words behind the next one
  pub since-place : {mark : ℕ} (h : Since ram start passed mark) → start + passed * 2 ≡ mark + h.words * 2
  since-place h = omega (arith, h.place, h.between)

  -- a mark at the next word
  pub since-here : {mark : ℕ} → mark ≡ start + passed * 2 → Since ram start passed mark
  since-here e =
      record { marked = passed; words = 0; place = e; between = omega arith; plain = λ i l. absurd (omega (arith, l)) }

  -- one more plain word passed
  pub since-more : {mark : ℕ} → Since ram start passed mark → Plain (word_at ram (start + passed * 2)) → Since ram start (suc passed) mark
  since-more {mark} h w =
      record {
        marked = h.marked;
        words = h.words + 1;
        place = h.place;
        between = omega (arith, h.between);
        plain = below_more (λ i. Plain (word_at ram (mark + i * 2))) h.words h.plain (rw (since-place h) at w);
      }
