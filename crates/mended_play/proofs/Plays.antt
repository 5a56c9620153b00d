-- The plays of words and of the mended words, line by line.
use mathlib.Core.Path.{◌≡◌, refl, sym, ◌∙◌, subst}
use mathlib.Core.Bool.{true, false}
use mathlib.Core.List.{List, [], ◌∷◌}
use Prim.Native.Nat.{ℕ, ◌+◌, ◌*◌, ◌<◌, ◌≤◌}
use native.Mathlib.Omega.{arith}
use lib.ListN.{length}
use Rattle.common.proofs.Order.{either_side}
use Rattle.common.proofs.Tests.{clash}
use Rattle.words.specs.Words.{kind_of, stops, has_stop}
use Rattle.mend.specs.Rule.{mended, stop, added_stop, mended_words}
use Rattle.sound.specs.declared.Channel.{Channel}
use Rattle.sound.specs.Channels.{word_at, turn_of}
use Rattle.sound.specs.Line.{channel_after, did_on}
use Rattle.forecast.specs.Rule.{Has}
use Rattle.forecast.specs.Demand.{did_stop, did_sit}
use Rattle.mended_play.specs.Play.{played_on, SameLine, WordOf, Among, SamePlay, KeepsTo, StopsAfter}
use Rattle.mended_play.specs.Sameness.{Fresh, AllHave, Plays}
use Rattle.mended_play.proofs.Deeds.{line_on, same_line, sits-alike}
use Rattle.mended_play.proofs.Inside.{Inside, Acts, executes, waits, line-acts}
use Rattle.mended_play.proofs.Words.{word_number, mended-length, word-mended, stop-added, StopAt, stop-at, no_stop}

module _ (ws : List ℕ) (start : ℕ) where
  -- a line on which one of the words is executed, or none
  same-on :
      (ram other : List ℕ) (c : Channel) → Has ram start ws → Has other start (mended_words ws) →
      Among start (length ws) (line_on ram c) → SameLine (line_on ram c) (line_on other c)
  same-on ram other c old new h = same_line ram other c (λ e. word (h e))
    where
      word : WordOf start (length ws) c.address → word_at other c.address ≡ mended (word_at ram c.address)
      word p = rw p.stands (word-mended ram other start ws old new p.place p.below)

  pub same_play :
      (c : Channel) (rams others : List (List ℕ)) → AllHave start ws rams → AllHave start (mended_words ws) others →
      SamePlay start (length ws) (played_on rams c) (played_on others c)
  same_play c [] others old new = tt
  same_play c (ram ∷ rams) [] old new = tt
  same_play c (ram ∷ rams) (other ∷ others) old new =
      λ h. (let same : SameLine (line_on ram c) (line_on other c) = same-on ram other c old.0 new.0 h in (
        same,
        λ e. rw (← same.after) (same_play (channel_after ram c) rams others old.1 new.1),
      ))

  -- a channel so many words from the start executes one of the words, if any
  among : (ram : List ℕ) (number : ℕ) (c : Channel) → Inside start number c → number < length ws → Among start (length ws) (line_on ram c)
  among ram number c p l e = record { place = number; below = l; stands = p.place }

  -- ---- with a STOP among the words
  module _ (s : StopAt ws) (fits : start + length ws * 2 ≤ 65536) where
    -- from a channel at that STOP or before it, where the lines lead again to such
    Kept : List (List ℕ) → Type 0
    Kept rams = (number : ℕ) (c : Channel) → Inside start number c → number ≤ s.place → KeepsTo start (length ws) (played_on rams c)

    keep_on :
        (ram : List ℕ) (rams : List (List ℕ)) → Has ram start ws → Kept rams →
        (number : ℕ) (c : Channel) → Inside start number c → number ≤ s.place → did_stop (did_on ram c) ≡ false →
        KeepsTo start (length ws) (played_on rams (channel_after ram c))
    unfolding Kept
    keep_on ram rams old rest number c p l e = by-acts (line-acts ram start number c p)
      where
        at-stop : number ≡ s.place → stops (word_at ram c.address) ≡ true
        at-stop n = rw (p.place, n, word_number ram start ws old s.place s.below) s.stands

        by-acts : Acts ram start number c (turn_of ram c) → KeepsTo start (length ws) (played_on rams (channel_after ram c))
        by-acts (waits i q) = rest number (channel_after ram c) q l
        by-acts (executes i t further) =
            either_side number s.place
            (λ below. (let f = further (sym t ∙ e) (omega (arith, s.below)) in rest f.next (channel_after ram c) f.inside (omega (arith, f.least))))
            (λ above. absurd (clash (at-stop (omega (arith, l, above))) (sym t ∙ e)))

    kept : (rams : List (List ℕ)) → AllHave start ws rams → Kept rams
    unfolding Kept
    kept [] old number c p l = tt
    kept (ram ∷ rams) old number c p l =
        (among ram number c p (omega (arith, s.below)), keep_on ram rams old.0 (kept rams old.1) number c p l)

  -- ---- with none
  module _ (none : has_stop ws ≡ false) (fits : start + length ws * 2 + 2 ≤ 65536) where
    -- from a channel at one of the words or just after the last, the same in both plays
    Ended : List (List ℕ) → List (List ℕ) → Type 0
    Ended rams others =
        (number : ℕ) (c : Channel) → Inside start number c → number ≤ length ws → StopsAfter start (length ws) (played_on rams c) (played_on others c)

    module _ (ram other : List ℕ) (rams others : List (List ℕ)) (old : Has ram start ws) (new : Has other start (mended_words ws)) (rest : Ended rams others) where
      -- a line that executes one of the words or none, to a channel that is no further than after the last
      goes_on :
          (next : ℕ) (c : Channel) → Among start (length ws) (line_on ram c) → Inside start next (channel_after ram c) → next ≤ length ws →
          StopsAfter start (length ws) (played_on (ram ∷ rams) c) (played_on (other ∷ others) c)
      unfolding Ended
      goes_on next c h p l = (
        λ n. absurd (n h),
        λ e. rw (← (same-on ram other c old new h).after) (rest next (channel_after ram c) p l),
      )

      stop-stops : stops stop ≡ true
      unfolding stops kind_of
      stop-stops = refl

      -- the word after the last
      stops-there :
          (c : Channel) → Inside start (length ws) c → did_sit (did_on ram c) ≡ false →
          StopsAfter start (length ws) (played_on (ram ∷ rams) c) (played_on (other ∷ others) c)
      stops-there c p e = (
        λ n. record { address = p.place; before = refl; stop = other-stops (line-acts other start (length ws) c p) },
        λ h. absurd (omega (arith, (h e).below, (h e).stands, p.place)),
      )
        where
          other-stops : Acts other start (length ws) c (turn_of other c) → did_stop (did_on other c) ≡ true
          other-stops (executes i t f) = t ∙ rw (p.place, stop-added ram other start ws old new none) stop-stops
          other-stops (waits i q) = absurd (clash i (sits-alike ram other c ∙ e))

      end_on : (number : ℕ) (c : Channel) → Inside start number c → number ≤ length ws →
          StopsAfter start (length ws) (played_on (ram ∷ rams) c) (played_on (other ∷ others) c)
      end_on number c p l = either_side number (length ws) below (λ above. at_end (omega (arith, l, above)) (line-acts ram start number c p))
        where
          no_stop-here : number < length ws → stops (word_at ram c.address) ≡ false
          no_stop-here b = rw (p.place, word_number ram start ws old number b) (no_stop ws none number b)

          by-acts : number < length ws → Acts ram start number c (turn_of ram c) → StopsAfter start (length ws) (played_on (ram ∷ rams) c) (played_on (other ∷ others) c)
          by-acts b (waits i q) = goes_on number c (among ram number c p b) q l
          by-acts b (executes i t further) =
              let f = further (no_stop-here b) (omega (arith, b)) in
              goes_on f.next c (among ram number c p b) f.inside (omega (arith, f.least, b))

          below : number < length ws → StopsAfter start (length ws) (played_on (ram ∷ rams) c) (played_on (other ∷ others) c)
          below b = by-acts b (line-acts ram start number c p)

          at_end :
              number ≡ length ws → Acts ram start number c (turn_of ram c) →
              StopsAfter start (length ws) (played_on (ram ∷ rams) c) (played_on (other ∷ others) c)
          at_end n (waits i q) = goes_on number c (λ e. absurd (clash i e)) q l
          at_end n (executes i t further) = stops-there c (subst (λ k. Inside start k c) n p) i

    ended : (rams others : List (List ℕ)) → AllHave start ws rams → AllHave start (mended_words ws) others → Ended rams others
    unfolding Ended
    ended [] others old new number c p l = tt
    ended (ram ∷ rams) [] old new number c p l = tt
    ended (ram ∷ rams) (other ∷ others) old new number c p l =
        end_on ram other rams others old.0 new.0 (ended rams others old.1 new.1) number c p l

  -- ---- from a fresh channel
  fresh-inside : (c : Channel) → Fresh start c → Inside start 0 c
  fresh-inside c f =
      record { enabled = f.enabled; place = omega (arith, f.address); back = λ z. absurd (omega (arith, f.counter)) }

  pub by_lines :
      (c : Channel) → Fresh start c → (rams others : List (List ℕ)) → AllHave start ws rams → AllHave start (mended_words ws) others →
      Plays ws (mended_words ws) start (played_on rams c) (played_on others c)
  unfolding Kept Ended
  by_lines c f rams others old new =
      record {
        same = same_play c rams others old new;
        keeps = λ h fits. kept (stop-at ws h) (omega (arith, fits, mended-length ws)) rams old 0 c (fresh-inside c f) (omega arith);
        ends =
            λ h fits. (
            let one : length (added_stop ws) ≡ 1 = rw h in
            ended h (omega (arith, fits, mended-length ws, one)) rams others old new 0 c (fresh-inside c f) (omega arith)
            );
      }
