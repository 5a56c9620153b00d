-- An acknowledge clears at most a channel's interrupt, and muting sets a mute mark.
use mathlib.Core.Path.{◌≡◌, refl}
use mathlib.Core.Bool.{Bool, true, false}
use Prim.Native.Nat.{ℕ}
use lib.Dec.{leb}
use Rattle.common.specs.Choice.{if, either, bit}
use Rattle.common.proofs.Lists.{after-set}
use Rattle.sound.specs.declared.Channel.{Channel}
use Rattle.sound.specs.Channels.{with_flags, with_mute}
use Rattle.sound.specs.Line.{channel_of, off_channel}
use Rattle.chip.specs.declared.Chip.{Chip}
use Rattle.chip.specs.Channels.{Aside}
use Rattle.chip.specs.Mute.{mute_set}
use Rattle.chip.specs.Interrupts.{of_raster, channel_for, source_on, cleared, with_cleared, sound_served, acknowledged}

-- a channel with at most its interrupt and its mute mark changed
pub flagged :
    (d : Channel) {interrupt muted : Bool} →
    Aside d
    (record {
      enabled = d.enabled;
      interrupt = interrupt;
      address = d.address;
      prescale = d.prescale;
      pause = d.pause;
      count = d.count;
      counter = d.counter;
      mark = d.mark;
      muted = muted;
    })
flagged d =
    record {
      alone = record { address = refl; prescale = refl; enabled = λ e. e };
      keeps = record { pause = refl; count = refl; counter = refl; mark = refl };
    }

pub aside_self : (d : Channel) → Aside d d
aside_self d = flagged d

-- what holds of a channel and any other that differs in its interrupt alone holds over an acknowledge
module _ (P : Channel → Channel → Type 0) (same : (d : Channel) (interrupt : Bool) → P d (with_flags d d.enabled interrupt))
    (c : Chip) (n : ℕ) where
  by_source : (source : ℕ) → P (channel_of c.sound.channels n) (channel_of (sound_served c.sound c.interrupts.ivr source).channels n)
  unfolding sound_served
  by_source source = go (either (leb of_raster source) (bit 0 c.interrupts.ivr))
    where
      stays : P (channel_of c.sound.channels n) (channel_of c.sound.channels n)
      stays = same (channel_of c.sound.channels n) (channel_of c.sound.channels n).interrupt

      go : (t : Bool) → P (channel_of c.sound.channels n) (channel_of (if t c.sound (with_cleared c.sound (channel_for source))).channels n)
      go true = stays
      go false =
          after-set (λ e. P (channel_of c.sound.channels n) e) c.sound.channels (channel_for source) n
          (cleared (channel_of c.sound.channels (channel_for source))) off_channel stays (λ e. rw e (same _ false))

  by_acknowledge : P (channel_of c.sound.channels n) (channel_of (acknowledged c).sound.channels n)
  unfolding acknowledged
  by_acknowledge = by_source (source_on c)

pub acknowledge_leaves : (c : Chip) (n : ℕ) → Aside (channel_of c.sound.channels n) (channel_of (acknowledged c).sound.channels n)
acknowledge_leaves = by_acknowledge Aside (λ d i. flagged d)

pub acknowledge_mutes : (c : Chip) (n : ℕ) → (channel_of (acknowledged c).sound.channels n).muted ≡ (channel_of c.sound.channels n).muted
acknowledge_mutes = by_acknowledge (λ d e. e.muted ≡ d.muted) (λ d i. refl)

-- channel n where some channel is muted or heard again
pub mute_leaves :
    (c : Chip) (k : ℕ) (on : Bool) (n : ℕ) → Aside (channel_of c.sound.channels n) (channel_of (mute_set c k on).sound.channels n)
unfolding mute_set
mute_leaves c k on n =
    after-set (λ e. Aside (channel_of c.sound.channels n) e) c.sound.channels k n (with_mute (channel_of c.sound.channels k) on)
    off_channel (aside_self _) (λ e. rw e (flagged _))
