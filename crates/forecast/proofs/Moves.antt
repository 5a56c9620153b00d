-- What executing a word does to a channel, field by field.
use mathlib.Core.Path.{◌≡◌, refl}
use mathlib.Core.Bool.{Bool, true, false}
use Prim.Native.Nat.{ℕ, zero, suc, ◌-◌}
use native.Mathlib.Omega.{arith}
use lib.Dec.{ltb, eqb-suc-zero}
use borrow.Author.Tests.{lt-ltb}
use Rattle.common.specs.Choice.{if, both}
use Rattle.words.specs.Words.{kind_of, low12, loop_bit, int_bit, stop_bit}
use Rattle.words.specs.declared.WordKind.{WordKind}
use Rattle.words.specs.declared.WordKind.TheVariants.{Load, Pause, Repeat, Control, Nothing}
use Rattle.sound.specs.declared.Channel.{Channel}
use Rattle.sound.specs.Channels.{with_address, with_loop, executed, paused, controlled, interrupted, stopped}
use Rattle.words.specs.Words.{is_pause, is_repeat, is_control, repeats, loops, stops}

-- the channel after a word that pauses, repeats, loops back, interrupts or stops, with these low 12 bits
abbrev pub moved : Bool → Bool → Bool → Bool → Bool → ℕ → Channel → Channel
moved pauses repeats backs interrupts stops n c =
    record {
      enabled = if stops false c.enabled;
      interrupt = if interrupts true c.interrupt;
      address = if backs c.mark c.address;
      prescale = c.prescale;
      pause = if pauses n c.pause;
      count = if pauses 0 c.count;
      counter = if repeats n (if backs (c.counter - 1) c.counter);
      mark = if repeats c.address c.mark;
      muted = c.muted;
    }

-- a PAUSE, and a control word by whether it goes back, interrupts and stops
pauses_as : (n : ℕ) (c : Channel) → paused n c ≡ moved (ltb 0 n) false false false false n c
pauses_as zero c = refl
pauses_as (suc n) c = rw (eqb-suc-zero n, lt-ltb 0 (suc n) (omega arith))

controls_as :
    (b i s : Bool) (n : ℕ) (c : Channel) → stopped s (interrupted i (if b (with_address (with_loop c (c.counter - 1) c.mark) c.mark) c)) ≡ moved false false b i s n c
controls_as true true true n c = refl
controls_as true true false n c = refl
controls_as true false true n c = refl
controls_as true false false n c = refl
controls_as false true true n c = refl
controls_as false true false n c = refl
controls_as false false true n c = refl
controls_as false false false n c = refl

-- any word
pub moves :
    (w : ℕ) (c : Channel) →
    executed (kind_of w) (low12 w) c ≡
    moved (both (is_pause (kind_of w)) (ltb 0 (low12 w))) (repeats w) (both (loops w) (ltb 0 c.counter))
    (both (is_control (kind_of w)) (int_bit (low12 w))) (stops w) (low12 w) c
unfolding repeats loops stops controlled
moves w c = by_kind (kind_of w) (low12 w)
  where
    by_kind :
        (k : WordKind) (n : ℕ) →
        executed k n c ≡
        moved (both (is_pause k) (ltb 0 n)) (is_repeat k) (both (both (is_control k) (loop_bit n)) (ltb 0 c.counter))
        (both (is_control k) (int_bit n)) (both (is_control k) (stop_bit n)) n c
    by_kind Load n = refl
    by_kind Pause n = pauses_as n c
    by_kind Repeat n = refl
    by_kind Control n = controls_as (both (loop_bit n) (ltb 0 c.counter)) (int_bit n) (stop_bit n) n c
    by_kind Nothing n = refl
