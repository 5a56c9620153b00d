-- One word of a list that plays: what is left falls by the cost of the word, whatever the cost, and the list plays on.
use mathlib.Core.Path.{◌≡◌, refl, sym, ◌∙◌, ap}
use mathlib.Core.Bool.{Bool, true, false}
use mathlib.Core.List.{List, [], ◌∷◌}
use Prim.Native.Nat.{ℕ, zero, suc, ◌+◌, ◌*◌, ◌%◌, ◌<◌, ◌≤◌}
use native.Mathlib.Omega.{arith}
use borrow.Author.Tests.{lt-ltb}
use lib.Dec.{ltb}
use Rattle.common.specs.Choice.{both}
use Rattle.words.specs.Words.{kind_of, low12, loop_bit}
use Rattle.words.specs.declared.WordKind.{WordKind}
use Rattle.words.specs.declared.WordKind.TheVariants.{Load, Pause, Repeat, Control, Nothing}
use Rattle.sound.specs.declared.Channel.{Channel}
use Rattle.sound.specs.Channels.{word_at, fetched, word_played}
use Rattle.words.specs.Words.{is_repeat, is_control, stops, loops, repeats, has_stop}
use Rattle.forecast.specs.Rule.{words_of}
use Rattle.forecast.specs.Left.{cost_between, ahead, left}
use Rattle.forecast.proofs.Playing.{Plain, Since, Playing}
use Rattle.forecast.proofs.Ahead.{ahead-stop, ahead-plain, ahead-repeat, ahead-loop, ahead-total}
use Rattle.forecast.proofs.Words.{At, at-word, at_next, at-within, room, words-stop, words_more, stop-next}
use Rattle.forecast.proofs.Since.{between_none, between_more, ahead-back, since-place, since-here, since-more}
use Rattle.forecast.proofs.Moves.{moves}

module _ (ram : List ℕ) (start : ℕ) where
  -- a channel that has passed a word plays on, and what is left is less by the word's cost
  pub record Passes (w : ℕ) (c d : Channel) : Type 0 where
    pub playing : Playing ram start d
    pub falls : (cost : ℕ → ℕ) → left cost ram c ≡ cost w + left cost ram d

-- a LOOP is no REPEAT
pub loop-only : (w : ℕ) → loops w ≡ true → repeats w ≡ false
unfolding loops repeats
loop-only w l = by_kind (kind_of w) l
  where
    by_kind : (k : WordKind) → both (is_control k) (loop_bit (low12 w)) ≡ true → is_repeat k ≡ false
    by_kind Load e = refl
    by_kind Pause e = refl
    by_kind Repeat e = cc
    by_kind Control e = refl
    by_kind Nothing e = refl

module _ (ram : List ℕ) (start : ℕ) (listed : has_stop (words_of ram start) ≡ true) (c : Channel) (p : Playing ram start c) where
  here : At ram start p.passed
  here = at-word ram start listed p.passed p.within

  stop-ahead : has_stop (words_of ram c.address) ≡ true
  stop-ahead = rw p.place here.stop

  bytes : c.address + 2 ≤ 65536
  bytes = room ram _ stop-ahead

  -- a STOP is all that is left
  pub word-stops : (cost : ℕ → ℕ) → stops (word_at ram c.address) ≡ true → left cost ram c ≡ cost (word_at ram c.address)
  unfolding left
  word-stops cost s = rw (words-stop ram c.address bytes s) (ahead-stop cost _ _ _ [] s)

  module _ (s : stops (word_at ram c.address) ≡ false) where
    more : words_of ram c.address ≡ word_at ram c.address ∷ words_of ram (c.address + 2)
    more = words_more ram c.address bytes s

    -- the address after the fetch
    fetch : (c.address + 2) % 65536 ≡ c.address + 2
    fetch = omega (arith, room ram _ (stop-next ram c.address s stop-ahead))

    module _ (d : Channel) (on : d.enabled ≡ true) where
      -- on to the next word
      goes_on : d.address ≡ c.address + 2 → (0 < d.counter → Since ram start (suc p.passed) d.mark) → Playing ram start d
      goes_on a h =
          record {
            enabled = on;
            passed = suc p.passed;
            place = omega (arith, p.place);
            within = at-within ram start _ (at_next ram start _ here (rw p.place at s));
            since = h;
          }

      plain_word :
          Plain (word_at ram c.address) → d.address ≡ c.address + 2 → d.counter ≡ c.counter → d.mark ≡ c.mark →
          Passes ram start (word_at ram c.address) c d
      unfolding left
      plain_word w a k m =
          record {
            playing = goes_on a (λ h. rw m (since-more ram start _ (p.since (omega arith)) (rw p.place at w)));
            falls =
                λ cost.
                rw (a, k, m, more, ahead-plain cost _ _ _ _ s w.loop w.repeat)
                (ap (λ x. cost (word_at ram c.address) + x) (by-counter cost c.counter refl));
          }
        where
          by-counter :
              (cost : ℕ → ℕ) (n : ℕ) → c.counter ≡ n →
              ahead cost n (cost_between cost ram c.mark c.address + cost (word_at ram c.address)) (words_of ram (c.address + 2)) ≡
              ahead cost n (cost_between cost ram c.mark (c.address + 2)) (words_of ram (c.address + 2))
          by-counter cost zero e = ahead-total cost _ _ ∙ sym (ahead-total cost _ _)
          by-counter cost (suc n) e =
              let h : Since ram start p.passed c.mark = p.since (omega arith) in
              let f : c.address ≡ c.mark + h.words * 2 = p.place ∙ since-place ram start _ h in
              rw (f, between_more cost ram h.words c.mark)

      repeat-word :
          loops (word_at ram c.address) ≡ false → repeats (word_at ram c.address) ≡ true → d.address ≡ c.address + 2 →
          d.counter ≡ low12 (word_at ram c.address) → d.mark ≡ c.address + 2 → Passes ram start (word_at ram c.address) c d
      unfolding left
      repeat-word l r a k m =
          record {
            playing = goes_on a (λ h. since-here ram start _ (omega (arith, p.place)));
            falls = λ cost. rw (a, k, m, more, ahead-repeat cost _ _ _ _ s l r, between_none cost ram (c.address + 2));
          }

      -- a LOOP with no passes left goes on
      last-loop :
          loops (word_at ram c.address) ≡ true → c.counter ≡ 0 → d.address ≡ c.address + 2 → d.counter ≡ 0 →
          Passes ram start (word_at ram c.address) c d
      unfolding left
      last-loop l z a k =
          record {
            playing = goes_on a (λ h. absurd (omega (arith, h)));
            falls =
                λ cost. rw (a, k, z, more, ahead-loop cost _ _ _ _ s l (loop-only _ l)) (simp ahead-total (omega arith));
          }

      -- with passes left it goes back to the mark
      loop-back :
          loops (word_at ram c.address) ≡ true → (n : ℕ) → c.counter ≡ suc n → d.address ≡ c.mark → d.counter ≡ n → d.mark ≡ c.mark →
          Passes ram start (word_at ram c.address) c d
      unfolding left
      loop-back l n z a k m =
          let h : Since ram start p.passed c.mark = p.since (omega arith) in
          let f : c.address ≡ c.mark + h.words * 2 = p.place ∙ since-place ram start _ h in
          record {
            playing =
                record {
                  enabled = on;
                  passed = h.marked;
                  place = a ∙ h.place;
                  within = omega (arith, p.within, h.between);
                  since = λ l. since-here ram start _ (m ∙ h.place);
                };
            falls =
                λ cost.
                rw (a, k, m, z, f, between_none cost ram c.mark)
                (ahead-back cost ram n h.words c.mark (rw f at bytes) h.plain (rw f at s) (rw f at l) (rw f at (loop-only _ l)));
          }

    -- any word but a STOP
    pub word-passes :
        Passes ram start (word_at ram c.address) c (word_played c (word_at ram c.address)).channel
    unfolding fetched
    word-passes = by_loop (loops (word_at ram c.address)) refl
      where
        w : ℕ
        w = word_at ram c.address

        d : Channel
        d = (word_played c w).channel

        on : d.enabled ≡ true
        on = rw (moves, s) p.enabled

        by-repeat : (b : Bool) → loops w ≡ false → repeats w ≡ b → Passes ram start w c d
        by-repeat true l r = repeat-word d on l r (rw (moves, l, fetch)) (rw (moves, r)) (rw (moves, r, fetch))
        by-repeat false l r =
            plain_word d on (record { stop = s; loop = l; repeat = r }) (rw (moves, l, fetch)) (rw (moves, r, l)) (rw (moves, r))

        by-counter : (n : ℕ) → loops w ≡ true → c.counter ≡ n → Passes ram start w c d
        by-counter zero l e = last-loop d on l e (rw (moves, l, e, fetch)) (rw (moves, loop-only w l, l, e))
        by-counter (suc n) l e =
            let t : ltb 0 (suc n) ≡ true = lt-ltb 0 (suc n) (omega arith) in
            loop-back d on l n e (rw (moves, l, e, t)) (rw (moves, loop-only w l, l, e, t) (omega arith)) (rw (moves, loop-only w l))

        by_loop : (b : Bool) → loops w ≡ b → Passes ram start w c d
        by_loop true l = by-counter c.counter l refl
        by_loop false l = by-repeat (repeats w) l refl
