-- How far a channel is in a list, and where a line on which it executes no STOP leaves it.
use mathlib.Core.Path.{◌≡◌, refl, sym, ◌∙◌, subst}
use mathlib.Core.Bool.{Bool, true, false}
use mathlib.Core.List.{List}
use Prim.Native.Nat.{ℕ, suc, ◌+◌, ◌*◌, ◌%◌, ◌<◌, ◌≤◌}
use native.Mathlib.Omega.{arith}
use lib.Dec.{ltb}
use borrow.Author.Tests.{ltb-true}
use Rattle.common.specs.Choice.{both}
use Rattle.words.specs.Words.{repeats, loops, stops}
use Rattle.sound.specs.declared.Channel.{Channel}
use Rattle.sound.specs.declared.Turn.{Turn}
use Rattle.sound.specs.Channels.{word_at, with_pause, fetched, word_played, turn_of}
use Rattle.forecast.specs.Demand.{did_stop, did_sit}
use Rattle.forecast.proofs.Moves.{moves}
use Rattle.forecast.proofs.Waits.{Counts, acts, sits, counts, turn-acts, turn-sits}
use Rattle.forecast.proofs.WordPlays.{loop-only}
use Rattle.forecast.proofs.LinePlays.{word-stop}
use Rattle.mended_play.specs.Play.{WordOf}

-- an enabled channel so many words from the start, with no loop to beyond it
pub record Inside (start number : ℕ) (c : Channel) : Type 0 where
  pub enabled : c.enabled ≡ true
  pub place : c.address ≡ start + number * 2
  pub back : 0 < c.counter → WordOf start (suc number) c.mark

-- and at most one word further
pub record Further (start number : ℕ) (c : Channel) : Type 0 where
  pub next : ℕ
  pub least : next ≤ suc number
  pub inside : Inside start next c

paused-inside : (start number : ℕ) (c : Channel) → Inside start number c → (n q : ℕ) → Inside start number (with_pause c n q)
paused-inside start number c p n q = record { enabled = p.enabled; place = p.place; back = p.back }

module _ (start number : ℕ) (c : Channel) (p : Inside start number c) (fits : start + number * 2 + 2 < 65536) where
  fetch : (c.address + 2) % 65536 ≡ start + suc number * 2
  fetch = omega (arith, p.place)

  -- a channel that has gone on to the next word, or back to the mark
  module _ (d : Channel) (on : d.enabled ≡ true) where
    forth : d.address ≡ (c.address + 2) % 65536 → (0 < d.counter → WordOf start (suc (suc number)) d.mark) → Further start number d
    forth a b = record { next = suc number; least = omega arith; inside = record { enabled = on; place = a ∙ fetch; back = b } }

    back_to : WordOf start (suc number) c.mark → d.address ≡ c.mark → d.mark ≡ c.mark → Further start number d
    back_to b a m =
        record {
          next = b.place;
          least = omega (arith, b.below);
          inside =
              record {
                enabled = on;
                place = a ∙ b.stands;
                back = λ z. record { place = b.place; below = omega arith; stands = m ∙ b.stands };
              };
        }

  -- a word that is no STOP
  word-inside : (w : ℕ) → stops w ≡ false → Further start number (word_played c w).channel
  unfolding fetched
  word-inside w s = by_word (repeats w) (both (loops w) (ltb 0 c.counter)) refl refl
    where
      d : Channel
      d = (word_played c w).channel

      on : d.enabled ≡ true
      on = rw (moves, s) p.enabled

      above : (l : Bool) → both l (ltb 0 c.counter) ≡ true → 0 < c.counter
      above true e = ltb-true 0 c.counter e
      above false e = let z : ◌≡◌ {A = ℕ} 0 1 = cc in absurd (omega arith)

      none : (l : Bool) → loops w ≡ l → both l (ltb 0 c.counter) ≡ true → repeats w ≡ true → ◌≡◌ {A = ℕ} 0 1
      none true e f r = let g : true ≡ false = sym r ∙ loop-only w e in cc
      none false e f r = cc

      further : WordOf start (suc number) c.mark → WordOf start (suc (suc number)) c.mark
      further b = record { place = b.place; below = omega (arith, b.below); stands = b.stands }

      by_word : (r b : Bool) → repeats w ≡ r → both (loops w) (ltb 0 c.counter) ≡ b → Further start number d
      by_word true true r b = absurd (omega (arith, none (loops w) refl b r))
      by_word true false r b =
          forth d on (rw (moves, b)) (λ z. record { place = suc number; below = omega arith; stands = rw (moves, r) fetch })
      by_word false true r b = back_to d on (p.back (above (loops w) b)) (rw (moves, b)) (rw (moves, r))
      by_word false false r b = forth d on (rw (moves, b)) (λ z. rw (moves, r) (further (p.back (rw (moves, r, b) at z))))

-- ---- a line: the channel executes the word at its address, or sits out
pub data Acts (ram : List ℕ) (start number : ℕ) (c : Channel) (t : Turn) : Type 0 where
  executes :
      did_sit t.did ≡ false → did_stop t.did ≡ stops (word_at ram c.address) →
      (stops (word_at ram c.address) ≡ false → start + number * 2 + 2 < 65536 → Further start number t.channel) →
      Acts ram start number c t
  waits : did_sit t.did ≡ true → Inside start number t.channel → Acts ram start number c t

pub line-acts : (ram : List ℕ) (start number : ℕ) (c : Channel) → Inside start number c → Acts ram start number c (turn_of ram c)
line-acts ram start number c p = by_count (counts c p.enabled)
  where
    as_turn : {t : Turn} → turn_of ram c ≡ t → Acts ram start number c t → Acts ram start number c (turn_of ram c)
    as_turn e h = subst (Acts ram start number c) (sym e) h

    by_count : Counts c → Acts ram start number c (turn_of ram c)
    by_count (acts q e z) =
        as_turn (turn-acts c p.enabled ram q e)
        (executes refl (word-stop _)
        (λ s fits. word-inside start number (with_pause c 0 q) (paused-inside start number c p 0 q) fits (word_at ram c.address) s))
    by_count (sits n q e z) =
        as_turn (turn-sits c p.enabled ram n q e) (waits refl (paused-inside start number c p (suc n) q))
