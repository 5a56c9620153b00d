-- 01, "The register page": what a write does to each sound channel.
use mathlib.Core.Path.{◌≡◌, refl, ap, sym}
use mathlib.Core.Bool.{Bool, true, false}
use mathlib.Core.List.{List}
use Prim.Native.Nat.{ℕ, zero, suc, ◌<◌}
use native.Mathlib.Omega.{arith}
use lib.Seq.{get_or-set_other}
use Rattle.common.specs.Choice.{if, bit}
use Rattle.common.proofs.Lists.{after-set}
use Rattle.editors.specs.declared.Editor.{Editor}
use Rattle.editors.specs.declared.Table.{Table}
use Rattle.sound.specs.declared.Channel.{Channel}
use Rattle.sound.specs.Line.{off_channel, channel_of}
use Rattle.chip.specs.declared.Chip.{Chip}
use Rattle.registers.specs.declared.address.ChannelRegister.{ChannelRegister}
use Rattle.registers.specs.declared.address.ChannelRegister.TheVariants.{StartLow, StartHigh, Prescale}
use Rattle.registers.specs.declared.address.Register.{Register}
use Rattle.registers.specs.declared.address.Register.TheVariants.{Pixel, Sprite, Palette, Video, Ivr, Converter, Channel as ChannelAt, Dcsr, Status, Empty}
use Rattle.chip.specs.Channels.{Keeps, LeftAlone}
use Rattle.registers.specs.Owners.{owns_channel}
use Rattle.registers.specs.Registers.{channel_written, control_written, control_by, dcsr_written, register_written}

alone_self : (d : Channel) → LeftAlone d d
alone_self d = record { address = refl; prescale = refl; enabled = λ e. e }

-- channel n after a DCSR write
pub dcsr-channel : (t : Table) (e : Editor) (cs : List Channel) (b n : ℕ) → n < 3 →
    channel_of (dcsr_written t e cs b) n ≡ control_by t e b n (channel_of cs n)
dcsr-channel t e cs b zero h = refl
dcsr-channel t e cs b (suc zero) h = refl
dcsr-channel t e cs b (suc (suc zero)) h = refl
dcsr-channel t e cs b (suc (suc (suc n))) h = absurd (omega arith)

-- what holds of a channel and any other with the same pause, line count, loop counter, mark and mute mark holds over every page write
module _ (P : Channel → Channel → Type 0)
    (same :
    (d : Channel) (enabled interrupt : Bool) (address prescale : ℕ) →
    P d
    (record {
      enabled = enabled;
      interrupt = interrupt;
      address = address;
      prescale = prescale;
      pause = d.pause;
      count = d.count;
      counter = d.counter;
      mark = d.mark;
      muted = d.muted;
    })) where
  by_register : (d : Channel) (r : ChannelRegister) (b : ℕ) → P d (channel_written d r b)
  by_register d StartLow b = same d _ _ _ _
  by_register d StartHigh b = same d _ _ _ _
  by_register d Prescale b = same d _ _ _ _

  -- a channel's flags are written, or it stays
  by-control : (own : Bool) (b n : ℕ) (d : Channel) → P d (if own (control_written b n d) d)
  by-control true b n d = same d _ _ _ _
  by-control false b n d = same d _ _ _ _

  by_page : (c : Chip) (e : Editor) (x : Register) (b n : ℕ) → n < 3 →
      P (channel_of c.sound.channels n) (channel_of (register_written c e x b).sound.channels n)
  by_page c e (Pixel i) b n h = same (channel_of c.sound.channels n) _ _ _ _
  by_page c e (Sprite k p) b n h = same (channel_of c.sound.channels n) _ _ _ _
  by_page c e (Palette i) b n h = same (channel_of c.sound.channels n) _ _ _ _
  by_page c e (Video v) b n h = same (channel_of c.sound.channels n) _ _ _ _
  by_page c e Ivr b n h = same (channel_of c.sound.channels n) _ _ _ _
  by_page c e Converter b n h = same (channel_of c.sound.channels n) _ _ _ _
  by_page c e (ChannelAt m r) b n h =
      let cs = c.sound.channels in
      after-set (λ d. P (channel_of cs n) d) cs m n (channel_written (channel_of cs m) r b) off_channel (same (channel_of cs n) _ _ _ _)
      (λ q. rw q (by_register (channel_of cs m) r b))
  by_page c e Dcsr b n h =
      rw (dcsr-channel c.editing.table e c.sound.channels b n h)
      (by-control (owns_channel c.editing.table e n) b n (channel_of c.sound.channels n))
  by_page c e Status b n h = same (channel_of c.sound.channels n) _ _ _ _
  by_page c e Empty b n h = same (channel_of c.sound.channels n) _ _ _ _

-- no page write moves a channel's pause, line count, loop counter or mark
pub page_leaves : (c : Chip) (e : Editor) (x : Register) (b n : ℕ) → n < 3 →
    Keeps (channel_of c.sound.channels n) (channel_of (register_written c e x b).sound.channels n)
page_leaves = by_page Keeps (λ d i j k l. record { pause = refl; count = refl; counter = refl; mark = refl })

-- nor its mute mark
pub page_mutes : (c : Chip) (e : Editor) (x : Register) (b n : ℕ) → n < 3 →
    (channel_of (register_written c e x b).sound.channels n).muted ≡ (channel_of c.sound.channels n).muted
page_mutes = by_page (λ d e. e.muted ≡ d.muted) (λ d i j k l. refl)

control-alone : (own : Bool) (b n : ℕ) (d : Channel) → (own ≡ true → d.enabled ≡ true → bit n b ≡ true) →
    LeftAlone d (if own (control_written b n d) d)
control-alone true b n d set = record { address = refl; prescale = refl; enabled = set refl }
control-alone false b n d set = alone_self d

-- a write to a register that is not channel n's, and not DCSR by its owner with bit n clear while it is enabled, leaves its address,
-- prescale and a set enable
pub page_alone : (c : Chip) (e : Editor) (x : Register) (b n : ℕ) → n < 3 →
    ((r : ChannelRegister) → x ≡ ChannelAt n r → ⊥) →
    (x ≡ Dcsr → owns_channel c.editing.table e n ≡ true → (channel_of c.sound.channels n).enabled ≡ true → bit n b ≡ true) →
    LeftAlone (channel_of c.sound.channels n) (channel_of (register_written c e x b).sound.channels n)
page_alone c e (Pixel i) b n h own control = alone_self _
page_alone c e (Sprite k p) b n h own control = alone_self _
page_alone c e (Palette i) b n h own control = alone_self _
page_alone c e (Video v) b n h own control = alone_self _
page_alone c e Ivr b n h own control = alone_self _
page_alone c e Converter b n h own control = alone_self _
page_alone c e (ChannelAt m r) b n h own control =
    rw (get_or-set_other c.sound.channels m n _ off_channel (λ q. own r (ap (λ k. ChannelAt k r) (sym q)))) (alone_self _)
page_alone c e Dcsr b n h own control =
    rw (dcsr-channel c.editing.table e c.sound.channels b n h)
    (control-alone (owns_channel c.editing.table e n) b n (channel_of c.sound.channels n) (control refl))
page_alone c e Status b n h own control = alone_self _
page_alone c e Empty b n h own control = alone_self _
