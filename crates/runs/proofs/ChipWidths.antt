-- 02, L5: a line and an acknowledge leave a chip within the widths.
use mathlib.Core.Path.{◌≡◌, refl}
use mathlib.Core.Bool.{Bool, true, false}
use mathlib.Core.List.{List}
use Prim.Native.Nat.{ℕ, zero, suc, ◌+◌, ◌-◌}
use native.Mathlib.Omega.{arith}
use lib.Dec.{eqb, leb, ltb}
use lib.ListN.{length, length-set}
use Rattle.common.specs.Choice.{if, both, either, bit}
use Rattle.common.proofs.Lists.{after-set}
use Rattle.words.specs.Words.{kind_of, low12, loop_bit, int_bit, stop_bit}
use Rattle.words.specs.declared.WordKind.{WordKind}
use Rattle.words.specs.declared.WordKind.TheVariants.{Load, Pause, Repeat, Control, Nothing}
use Rattle.sound.specs.declared.Channel.{Channel}
use Rattle.sound.specs.declared.Sound.{Sound}
use Rattle.sound.specs.declared.Did.TheVariants.{SatOut}
use Rattle.sound.specs.Channels.{word_at, with_pause, with_address, with_loop, with_flags, with_mute, pause_counted, active, fetched, looped, interrupted, controlled, executed, turn_of, word_played}
use Rattle.sound.specs.Line.{off_channel, channel_of, channel_after, channels_after, sound_after}
use Rattle.chip.specs.declared.Chip.{Chip}
use Rattle.chip.specs.Interrupts.{of_raster, channel_for, source_on, cleared, with_cleared, interrupts_served, sound_served, acknowledged}
use Rattle.chip.specs.Mute.{channels_muted, mute_set}
use Rattle.chip.specs.State.{with_sound, with_interrupts}
use Rattle.chip.specs.Step.{stepped as stepped_chip, counters_stepped}
use Rattle.contents.specs.Widths.{ChannelWidths, Widths}
use Rattle.contents.proofs.WidthsLaws.{off-channel, with-sound}

-- ---- a line: the channels stay within their widths

-- either way
by : (t : Bool) (c d : Channel) → ChannelWidths c → ChannelWidths d → ChannelWidths (if t c d)
by true c d f g = f
by false c d f g = g

-- with other flags, pause, count, counter and mute mark
same : (c : Channel) {enabled interrupt muted : Bool} {pause count counter : ℕ} → ChannelWidths c →
    ChannelWidths
    (record {
      enabled = enabled;
      interrupt = interrupt;
      address = c.address;
      prescale = c.prescale;
      pause = pause;
      count = count;
      counter = counter;
      mark = c.mark;
      muted = muted;
    })
same c h = record { even = h.even; even-mark = h.even-mark; address = h.address; mark = h.mark; prescale = h.prescale }

module _ (c : Channel) (h : ChannelWidths c) where
  counted-widths : ChannelWidths (pause_counted c)
  unfolding pause_counted
  counted-widths =
      by (both c.enabled (ltb 0 c.pause)) _ _ (by (ltb c.prescale (c.count + 1)) _ _ (same c h) (same c h)) h

  fetched-widths : ChannelWidths (fetched c)
  unfolding fetched
  fetched-widths =
      record {
        even = omega (arith, h.even);
        even-mark = h.even-mark;
        address = omega arith;
        mark = h.mark;
        prescale = h.prescale;
      }

  looped-widths : (b : Bool) → ChannelWidths (looped b c)
  looped-widths b =
      by (both b (ltb 0 c.counter)) (with_address (with_loop c (c.counter - 1) c.mark) c.mark) c
      (record {
        even = h.even-mark;
        even-mark = h.even-mark;
        address = h.mark;
        mark = h.mark;
        prescale = h.prescale;
      })
      h

flags_widths : (t : Bool) (c : Channel) (enabled interrupt : Bool) → ChannelWidths c → ChannelWidths (if t (with_flags c enabled interrupt) c)
flags_widths true c enabled interrupt h = same c h
flags_widths false c enabled interrupt h = h

executed-widths : (k : WordKind) (n : ℕ) (c : Channel) → ChannelWidths c → ChannelWidths (executed k n c)
unfolding controlled
executed-widths Load n c h = h
executed-widths Pause n c h = by (eqb n 0) c (with_pause c n 0) h (same c h)
executed-widths Repeat n c h =
    record { even = h.even; even-mark = h.even; address = h.address; mark = h.address; prescale = h.prescale }
executed-widths Control n c h =
    flags_widths (stop_bit n) (interrupted (int_bit n) (looped (loop_bit n) c)) _ _
    (flags_widths (int_bit n) (looped (loop_bit n) c) _ _ (looped-widths c h (loop_bit n)))
executed-widths Nothing n c h = h

pub turn-widths : (ram : List ℕ) (c : Channel) → ChannelWidths c → ChannelWidths (channel_after ram c)
unfolding turn_of
turn-widths ram c h = go (active (pause_counted c))
  where
    go : (t : Bool) → ChannelWidths (if t (word_played (pause_counted c) (word_at ram (pause_counted c).address)) (record { channel = pause_counted c; did = SatOut })).channel
    go true =
        executed-widths (kind_of (word_at ram (pause_counted c).address)) (low12 (word_at ram (pause_counted c).address)) (fetched (pause_counted c)) (fetched-widths (pause_counted c) (counted-widths c h))
    go false = counted-widths c h

line-widths : (ram : List ℕ) (cs : List Channel) (n : ℕ) → ((n : ℕ) → ChannelWidths (channel_of cs n)) → ChannelWidths (channel_of (channels_after ram cs) n)
line-widths ram cs zero w = turn-widths ram (channel_of cs 0) (w 0)
line-widths ram cs (suc zero) w = turn-widths ram (channel_of cs 1) (w 1)
line-widths ram cs (suc (suc zero)) w = turn-widths ram (channel_of cs 2) (w 2)
line-widths ram cs (suc (suc (suc n))) w = off-channel

-- ---- a chip

-- a chip that differs where no width is
pub beside :
    (c d : Chip) → d.sprites ≡ c.sprites → d.palette ≡ c.palette → d.video ≡ c.video → d.sound.channels ≡ c.sound.channels →
    d.interrupts.ivr ≡ c.interrupts.ivr → Widths c → Widths d
beside c d e f g h i w =
    record {
      sixteen = rw e w.sixteen;
      entries = rw f w.entries;
      three = rw h w.three;
      sprite = rw e w.sprite;
      palette = rw f w.palette;
      colours = rw f w.colours;
      video = rw g w.video;
      channel = rw h w.channel;
      ivr = rw i w.ivr;
    }

-- an acknowledge clears at most an interrupt
served-sound : (s : Sound) (ivr source : ℕ) → length s.channels ≡ 3 → ((n : ℕ) → ChannelWidths (channel_of s.channels n)) →
    (length (sound_served s ivr source).channels ≡ 3) × ((n : ℕ) → ChannelWidths (channel_of (sound_served s ivr source).channels n))
unfolding sound_served
served-sound s ivr source three even = go (either (leb of_raster source) (bit 0 ivr))
  where
    at : ℕ
    at = channel_for source

    go :
        (t : Bool) →
        (length (if t s (with_cleared s at)).channels ≡ 3) × ((n : ℕ) → ChannelWidths (channel_of (if t s (with_cleared s at)).channels n))
    go true = (three, even)
    go false = (
      rw (length-set s.channels at (cleared (channel_of s.channels at))) three,
      λ n. after-set ChannelWidths s.channels at n _ off_channel (even n) (λ e. same (channel_of s.channels at) (even at)),
    )

pub acknowledged-widths : (c : Chip) → Widths c → Widths (acknowledged c)
unfolding acknowledged
acknowledged-widths c k =
    let s = served-sound c.sound c.interrupts.ivr (source_on c) k.three k.channel in
    let i = with_interrupts c (interrupts_served c.interrupts (source_on c)) in
    with-sound i (beside c i refl refl refl refl refl k) (sound_served c.sound c.interrupts.ivr (source_on c)) s.0 s.1

pub muted-widths : (c : Chip) (k : ℕ) (on : Bool) → Widths c → Widths (mute_set c k on)
unfolding mute_set
muted-widths c k on w =
    with-sound c w (record { channels = channels_muted c.sound.channels k on; psg = c.sound.psg })
    (rw (length-set c.sound.channels k (with_mute (channel_of c.sound.channels k) on)) w.three)
    (λ n. after-set ChannelWidths c.sound.channels k n _ off_channel (w.channel n) (λ e. same (channel_of c.sound.channels k) (w.channel k)))

pub stepped-widths : (ram : List ℕ) (c : Chip) → Widths c → Widths (stepped_chip ram c)
unfolding stepped_chip counters_stepped sound_after
stepped-widths ram c k =
    let s = sound_after ram c.sound in
    beside (with_sound c s) (stepped_chip ram c) refl refl refl refl refl
    (with-sound c k s refl (λ n. line-widths ram c.sound.channels n k.channel))
