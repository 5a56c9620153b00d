-- A mended word does what the word did, and so does a line on which it is executed.
use mathlib.Core.Path.{◌≡◌, refl, sym, ap}
use mathlib.Core.Bool.{Bool, true, false}
use mathlib.Core.List.{List}
use Prim.Native.Nat.{ℕ, ◌+◌, ◌-◌}
use lib.Dec.{ltb}
use Rattle.common.specs.Choice.{if, both}
use Rattle.words.specs.Words.{kind_of, low12, loop_bit, int_bit, stop_bit}
use Rattle.mend.specs.Rule.{control, mended}
use Rattle.mend.proofs.Word.{control-loop, control-int, control-stop, mended-same}
use Rattle.sound.specs.declared.Channel.{Channel}
use Rattle.sound.specs.declared.Did.{Did}
use Rattle.sound.specs.declared.Did.TheVariants.{SatOut, Executed}
use Rattle.sound.specs.declared.Turn.{Turn}
use Rattle.sound.specs.Channels.{word_at, with_pause, pause_counted, active, fetched, controlled, executed, word_played, turn_of}
use Rattle.sound.specs.Line.{channel_after, did_on, loaded, own_cycles}
use Rattle.forecast.specs.Demand.{did_stop, did_sit}
use Rattle.forecast.specs.Played.{Line}
use Rattle.mended_play.specs.Play.{did_int, SameDeed, SameLine}

pub same-deed : (d : Did) → SameDeed d d
same-deed d = record { load = λ registers. refl; int = refl; stop = refl; cycles = λ a. refl }

plain_runs : (c : Channel) → controlled 0 c ≡ c
unfolding controlled
plain_runs c = refl

module _ (w : ℕ) where
  abbrev l : Bool
  l = loop_bit (low12 w)

  abbrev i : Bool
  i = int_bit (low12 w)

  abbrev s : Bool
  s = stop_bit (low12 w)

  same_controls : (c : Channel) → controlled (low12 (control l i s)) c ≡ controlled (low12 w) c
  unfolding controlled
  same_controls c = rw (control-loop l i s, control-int l i s, control-stop l i s)

  -- the same channel after it
  same-channel : (c : Channel) → executed (kind_of (mended w)) (low12 (mended w)) c ≡ executed (kind_of w) (low12 w) c
  same-channel c = mended-same w (λ k n. executed k n c) (plain_runs c) (plain_runs c) (same_controls c)

  -- and the same deed
  pub same_word : SameDeed (Executed (kind_of w) (low12 w)) (Executed (kind_of (mended w)) (low12 (mended w)))
  same_word =
      record {
        load = λ registers. sym (mended-same w (λ k n. loaded registers (Executed k n)) refl refl refl);
        int = sym (mended-same w (λ k n. did_int (Executed k n)) refl refl (control-int l i s));
        stop = sym (mended-same w (λ k n. did_stop (Executed k n)) refl refl (control-stop l i s));
        cycles = λ a. sym (mended-same w (λ k n. own_cycles a (Executed k n)) refl refl refl);
      }

-- counting a pause leaves the address
counted-place : (c : Channel) → (pause_counted c).address ≡ c.address
unfolding pause_counted
counted-place c = by_tests (both c.enabled (ltb 0 c.pause)) (ltb c.prescale (c.count + 1))
  where
    by_tests : (a b : Bool) → (if a (if b (with_pause c (c.pause - 1) 0) (with_pause c c.pause (c.count + 1))) c).address ≡ c.address
    by_tests true true = refl
    by_tests true false = refl
    by_tests false b = refl

-- a channel's line as one of a play
abbrev pub line_on : List ℕ → Channel → Line
line_on ram c = record { before = c; did = did_on ram c; after = channel_after ram c }

-- on two RAMs, of which one has the mended word of the other's at the address if the channel executes a word
pub same_line :
    (ram other : List ℕ) (c : Channel) →
    (did_sit (did_on ram c) ≡ false → word_at other c.address ≡ mended (word_at ram c.address)) → SameLine (line_on ram c) (line_on other c)
unfolding turn_of
same_line ram other c e = by-active (active (pause_counted c)) (λ h. rw (counted-place c) (e h))
  where
    sat : Turn
    sat = record { channel = pause_counted c; did = SatOut }

    on : List ℕ → Turn
    on lent = word_played (pause_counted c) (word_at lent (pause_counted c).address)

    as_line : Turn → Line
    as_line t = record { before = c; did = t.did; after = t.channel }

    executes :
        word_at other (pause_counted c).address ≡ mended (word_at ram (pause_counted c).address) → SameLine (as_line (on ram)) (as_line (on other))
    executes word =
        rw word
        (record {
          before = refl;
          deed = same_word (word_at ram (pause_counted c).address);
          psg = λ registers. ap (if c.muted registers) ((same_word (word_at ram (pause_counted c).address)).load registers);
          after = rw (same-channel (word_at ram (pause_counted c).address) (fetched (pause_counted c)));
        })

    by-active :
        (b : Bool) →
        (did_sit (if b (on ram) sat).did ≡ false → word_at other (pause_counted c).address ≡ mended (word_at ram (pause_counted c).address)) →
        SameLine (as_line (if b (on ram) sat)) (as_line (if b (on other) sat))
    by-active true h = executes (h refl)
    by-active false h = record { before = refl; deed = same-deed SatOut; psg = λ registers. refl; after = refl }

-- whether a channel sits out does not depend on RAM
pub sits-alike : (ram other : List ℕ) (c : Channel) → did_sit (did_on other c) ≡ did_sit (did_on ram c)
unfolding turn_of
sits-alike ram other c = by-active (active (pause_counted c))
  where
    on : List ℕ → Turn
    on lent = word_played (pause_counted c) (word_at lent (pause_counted c).address)

    sat : Turn
    sat = record { channel = pause_counted c; did = SatOut }

    by-active : (b : Bool) → did_sit (if b (on other) sat).did ≡ did_sit (if b (on ram) sat).did
    by-active true = refl
    by-active false = refl
