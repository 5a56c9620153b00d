-- 02, L13: what a channel does on a line does not depend on its mute mark, which stays.
use mathlib.Core.Path.{◌≡◌, refl, ap, ◌∙◌}
use mathlib.Core.Bool.{Bool, true, false}
use mathlib.Core.List.{List}
use Prim.Native.Nat.{ℕ, ◌+◌, ◌-◌}
use lib.Dec.{eqb, ltb}
use Rattle.common.specs.Choice.{if, both}
use Rattle.words.specs.Words.{kind_of, low12, loop_bit, int_bit, stop_bit}
use Rattle.words.specs.declared.WordKind.{WordKind}
use Rattle.words.specs.declared.WordKind.TheVariants.{Load, Pause, Repeat, Control, Nothing}
use Rattle.sound.specs.declared.Channel.{Channel}
use Rattle.sound.specs.declared.Did.TheVariants.{SatOut, Executed}
use Rattle.sound.specs.declared.Turn.{Turn}
use Rattle.sound.specs.Channels.{word_at, with_pause, with_mute, pause_counted, active, fetched, looped, interrupted, stopped, controlled, executed, word_played, turn_of}
use Rattle.sound.specs.Line.{channel_after, did_on}

either-muted : (t m : Bool) (c d : Channel) → if t (with_mute c m) (with_mute d m) ≡ with_mute (if t c d) m
either-muted true m c d = refl
either-muted false m c d = refl

module _ (m : Bool) where
  counted-muted : (c : Channel) → pause_counted (with_mute c m) ≡ with_mute (pause_counted c) m
  unfolding pause_counted
  counted-muted c =
      ap (λ d. if (both c.enabled (ltb 0 c.pause)) d (with_mute c m))
      (either-muted (ltb c.prescale (c.count + 1)) m (with_pause c (c.pause - 1) 0) (with_pause c c.pause (c.count + 1)))
      ∙ either-muted (both c.enabled (ltb 0 c.pause)) m _ c

  looped-muted : (b : Bool) (c : Channel) → looped b (with_mute c m) ≡ with_mute (looped b c) m
  looped-muted b c = either-muted (both b (ltb 0 c.counter)) m _ c

  interrupted-muted : (b : Bool) (c : Channel) → interrupted b (with_mute c m) ≡ with_mute (interrupted b c) m
  interrupted-muted b c = either-muted b m _ c

  stopped-muted : (b : Bool) (c : Channel) → stopped b (with_mute c m) ≡ with_mute (stopped b c) m
  stopped-muted b c = either-muted b m _ c

  controlled-muted : (n : ℕ) (c : Channel) → controlled n (with_mute c m) ≡ with_mute (controlled n c) m
  unfolding controlled
  controlled-muted n c =
      ap (λ d. stopped (stop_bit n) (interrupted (int_bit n) d)) (looped-muted (loop_bit n) c)
      ∙ ap (stopped (stop_bit n)) (interrupted-muted (int_bit n) (looped (loop_bit n) c))
      ∙ stopped-muted (stop_bit n) (interrupted (int_bit n) (looped (loop_bit n) c))

  executed-muted : (k : WordKind) (n : ℕ) (c : Channel) → executed k n (with_mute c m) ≡ with_mute (executed k n c) m
  executed-muted Load n c = refl
  executed-muted Pause n c = either-muted (eqb n 0) m c (with_pause c n 0)
  executed-muted Repeat n c = refl
  executed-muted Control n c = controlled-muted n c
  executed-muted Nothing n c = refl

  -- a line: the same word or none, and the mark stays
  abbrev with_turn : Turn → Turn
  with_turn t = record { channel = with_mute t.channel m; did = t.did }

  pub turn-muted :
      (ram : List ℕ) (c : Channel) → turn_of ram (with_mute c m) ≡ with_turn (turn_of ram c)
  unfolding turn_of active fetched
  turn-muted ram c =
      ap (λ d. if (active d) (word_played d (word_at ram d.address)) (record { channel = d; did = SatOut })) (counted-muted c)
      ∙ go (both (pause_counted c).enabled (eqb (pause_counted c).pause 0))
    where
      go :
          (t : Bool) →
          if t (word_played (with_mute (pause_counted c) m) (word_at ram (pause_counted c).address))
          (record { channel = with_mute (pause_counted c) m; did = SatOut })
          ≡ with_turn (if t (word_played (pause_counted c) (word_at ram (pause_counted c).address)) (record { channel = pause_counted c; did = SatOut }))
      go true = ap (λ d. record { channel = d; did = Executed (kind_of (word_at ram (pause_counted c).address)) (low12 (word_at ram (pause_counted c).address)) }) (executed-muted (kind_of (word_at ram (pause_counted c).address)) (low12 (word_at ram (pause_counted c).address)) (fetched (pause_counted c)))
      go false = refl

pub did-muted : (ram : List ℕ) (c : Channel) (m : Bool) → did_on ram (with_mute c m) ≡ did_on ram c
did-muted ram c m = ap (λ (t : Turn). t.did) (turn-muted m ram c)

pub after-muted : (ram : List ℕ) (c : Channel) (m : Bool) → channel_after ram (with_mute c m) ≡ with_mute (channel_after ram c) m
after-muted ram c m = ap (λ (t : Turn). t.channel) (turn-muted m ram c)

pub mark-stays : (ram : List ℕ) (c : Channel) → (channel_after ram c).muted ≡ c.muted
mark-stays ram c = ap (λ (d : Channel). d.muted) (after-muted ram c c.muted)
