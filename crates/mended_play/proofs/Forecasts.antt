-- A list with a STOP has the same forecast before and after mending.
use mathlib.Core.Path.{◌≡◌, refl, ◌∙◌, ap}
use mathlib.Core.Bool.{Bool, true, false}
use mathlib.Core.List.{List, [], ◌∷◌, map, append-nil}
use Prim.Native.Nat.{ℕ, ◌+◌, ◌*◌, ◌%◌, ◌≤◌}
use native.Mathlib.Omega.{arith}
use lib.Dec.{ltb}
use lib.ListN.{length}
use Rattle.common.specs.Choice.{if, both, either}
use Rattle.words.specs.Words.{low12, loop_bit, int_bit, stop_bit, is_load, is_pause, is_repeat, is_control, repeats, loops, stops, has_stop}
use Rattle.sound.specs.declared.Access.{Access}
use Rattle.sound.specs.Line.{disturbance}
use Rattle.mend.specs.Rule.{mended, mended_words}
use Rattle.mend.proofs.Word.{control-loop, mended-same, mended-stops, mended-loops, mended-repeats}
use Rattle.forecast.specs.Rule.{Has, lines_of, cycles_of, words_of, closes, open_count, passes, total, even, lines_forecast, cycles_meeting}
use Rattle.forecast.proofs.Words.{words-stop, words_more}
use Rattle.forecast.proofs.Answer.{answer-served}
use Rattle.mended_play.specs.Sameness.{Fits, SameForecast}
use Rattle.mended_play.proofs.Words.{mended-length}

-- ---- a word: what it opens, its lines and its cycles
module _ (w : ℕ) where
  same_count : (k : ℕ) → open_count k (mended w) ≡ open_count k w
  unfolding open_count repeats loops
  same_count k =
      mended-same w (λ kind n. if (is_repeat kind) n (if (both (is_control kind) (loop_bit n)) 0 k)) refl refl
      (rw (control-loop (loop_bit (low12 w)) (int_bit (low12 w)) (stop_bit (low12 w))))

  same_lines : (prescale : ℕ) → lines_of prescale (mended w) ≡ lines_of prescale w
  unfolding lines_of
  same_lines prescale = mended-same w (λ kind n. if (both (is_pause kind) (ltb 0 n)) (n * (prescale + 1)) 1) refl refl refl

  same-cycles : (a : Access) → cycles_of a (mended w) ≡ cycles_of a w
  unfolding cycles_of
  same-cycles a = mended-same w (λ kind n. if (is_load kind) (9 + disturbance a) 2) refl refl refl

-- ---- words: the same total, for any cost that mending leaves
same-closes : (ws : List ℕ) → closes (map mended ws) ≡ closes ws
unfolding closes
same-closes [] = refl
same-closes (w ∷ ws) = rw (mended-stops w, mended-loops w, mended-repeats w, same-closes ws)

same_total : (cost : ℕ → ℕ) → ((w : ℕ) → cost (mended w) ≡ cost w) → (k : ℕ) (ws : List ℕ) → total cost k (map mended ws) ≡ total cost k ws
unfolding total passes
same_total cost h k [] = refl
same_total cost h k (w ∷ ws) =
    let e : closes (map mended (w ∷ ws)) ≡ closes (w ∷ ws) = same-closes (w ∷ ws) in
    rw (e, h w, same_count w k, same_total cost h (open_count k w) ws)

-- ---- in RAM: the mended list is the list mended, and ends in a STOP as it does
record Listed (ram other : List ℕ) (a : ℕ) : Type 0 where
  stop : has_stop (words_of ram a) ≡ true
  other-stop : has_stop (words_of other a) ≡ true
  words : words_of other a ≡ map mended (words_of ram a)

listed :
    (ram other : List ℕ) (a : ℕ) (ws : List ℕ) → Has ram a ws → Has other a (map mended ws) → has_stop ws ≡ true →
    a + length ws * 2 ≤ 65536 → Listed ram other a
unfolding has_stop
listed ram other a [] old new h f = let z : ◌≡◌ {A = ℕ} 0 1 = cc in absurd (omega arith)
listed ram other a (w ∷ ws) old new h f = by_word (stops w) refl h (λ g. listed ram other (a + 2) ws old.1 new.1 g (omega (arith, f)))
  where
    by_word :
        (b : Bool) → stops w ≡ b → either b (has_stop ws) ≡ true → (has_stop ws ≡ true → Listed ram other (a + 2)) → Listed ram other a
    by_word true s g rest =
        let l = words-stop ram a (omega (arith, f)) (ap stops old.0 ∙ s) in
        let m = words-stop other a (omega (arith, f)) (ap stops new.0 ∙ mended-stops w ∙ s) in
        record { stop = rw (l, old.0, s); other-stop = rw (m, new.0, mended-stops w, s); words = rw (l, m, old.0, new.0) }
    by_word false s g rest =
        let r = rest g in
        let l = words_more ram a (omega (arith, f)) (ap stops old.0 ∙ s) in
        let m = words_more other a (omega (arith, f)) (ap stops new.0 ∙ mended-stops w ∙ s) in
        record {
          stop = rw (l, old.0, s) r.stop;
          other-stop = rw (m, new.0, mended-stops w, s) r.other-stop;
          words = rw (l, m, old.0, new.0, r.words);
        }

-- ---- the forecasts
pub same-forecast :
    (ws : List ℕ) → has_stop ws ≡ true → (start : ℕ) → start % 2 ≡ 0 → Fits (mended_words ws) start →
    (ram other : List ℕ) → length ram ≡ 65536 → length other ≡ 65536 →
    Has ram start ws → Has other start (mended_words ws) → SameForecast ram other start
unfolding lines_forecast cycles_meeting mended_words
same-forecast ws h start evens fits ram other long other-long old new =
    let e : even start ≡ start = omega (arith, evens) in
    let l = listed ram other start ws old (all-mended new) h (omega (arith, fits, mended-length ws)) in
    record {
      old-served = answer-served ram start long (rw e l.stop);
      mended-served = answer-served other start other-long (rw e l.other-stop);
      lines = λ prescale. rw (e, l.words) (same_total (lines_of prescale) (λ w. same_lines w prescale) 0 (words_of ram start));
      cycles = λ a. rw (e, l.words) (same_total (cycles_of a) (λ w. same-cycles w a) 0 (words_of ram start));
    }
  where
    all-mended : Has other start (mended_words ws) → Has other start (map mended ws)
    all-mended x = rw (h, append-nil (map mended ws)) at x
