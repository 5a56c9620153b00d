-- Two sounds that are the same but for one mute mark and the PSG: what calls read of them is the same.
use mathlib.Core.Path.{◌≡◌, refl, ap, sym, ◌∙◌}
use mathlib.Core.Bool.{Bool}
use mathlib.Core.List.{List}
use Prim.Native.Nat.{ℕ, zero, suc}
use lib.ListN.{length, set, length-set}
use Rattle.sound.specs.declared.Accesses.{Accesses}
use Rattle.sound.specs.declared.Channel.{Channel}
use Rattle.sound.specs.declared.Sound.{Sound}
use Rattle.sound.specs.Channels.{with_mute}
use Rattle.sound.specs.Line.{off_channel, channel_of, channel_after, channels_after, did_on, sound_report}
use Rattle.sound.proofs.Muting.{did-muted, after-muted, mark-stays}
use Rattle.chip.specs.Interrupts.{source_of}
use Rattle.chip.specs.Mute.{channels_muted}
use Rattle.runs.proofs.Pairs.{both-set}
use Rattle.placing.specs.InUse.{used_by, in_use_of}

pub record Alike (k : ℕ) (s y : Sound) : Type 0 where
  pub count : length y.channels ≡ length s.channels
  pub channel : (n : ℕ) → channel_of y.channels n ≡ with_mute (channel_of s.channels n) (channel_of y.channels n).muted
  pub marks : (n : ℕ) → (n ≡ k → ⊥) → (channel_of y.channels n).muted ≡ (channel_of s.channels n).muted

module _ {k : ℕ} {s y : Sound} (h : Alike k s y) where
  -- a part of a channel that is not its mute mark
  pub part : {A : Type 0} (f : Channel → A) → ((c : Channel) (m : Bool) → f (with_mute c m) ≡ f c) → (n : ℕ) → f (channel_of y.channels n) ≡ f (channel_of s.channels n)
  part f g n = ap f (h.channel n) ∙ g _ _

  interrupt : (n : ℕ) → (channel_of y.channels n).interrupt ≡ (channel_of s.channels n).interrupt
  interrupt = part (λ c. c.interrupt) (λ c m. refl)

  did : (ram : List ℕ) (n : ℕ) → did_on ram (channel_of y.channels n) ≡ did_on ram (channel_of s.channels n)
  did ram = part (did_on ram) (did-muted ram)

  pub source_same : (raster : Bool) → source_of raster y ≡ source_of raster s
  unfolding source_of
  source_same raster = rw (interrupt 0, interrupt 1, interrupt 2)

  pub in_use_same : (place : ℕ) → in_use_of y place ≡ in_use_of s place
  unfolding in_use_of
  in_use_same place = rw (used 0, used 1, used 2)
    where
      used : (n : ℕ) → used_by (channel_of y.channels n) place ≡ used_by (channel_of s.channels n) place
      used = part (λ c. used_by c place) (λ c m. refl)

  pub report-same : (ram : List ℕ) (a : Accesses) → sound_report ram a y ≡ sound_report ram a s
  unfolding sound_report
  report-same ram a = rw (did ram 0, did ram 1, did ram 2)

  -- a line
  pub line-alike : (ram : List ℕ) (p q : List ℕ) → Alike k (record { channels = channels_after ram s.channels; psg = p }) (record { channels = channels_after ram y.channels; psg = q })
  line-alike ram p q = record { count = refl; channel = channel; marks = marks }
    where
      after : (n : ℕ) → channel_after ram (channel_of y.channels n) ≡ with_mute (channel_after ram (channel_of s.channels n)) (channel_after ram (channel_of y.channels n)).muted
      after n =
          ap (channel_after ram) (h.channel n) ∙ after-muted ram _ _
          ∙ ap (with_mute (channel_after ram (channel_of s.channels n))) (sym (mark-stays ram (channel_of y.channels n)))

      channel : (n : ℕ) → channel_of (channels_after ram y.channels) n ≡ with_mute (channel_of (channels_after ram s.channels) n) (channel_of (channels_after ram y.channels) n).muted
      channel zero = after 0
      channel (suc zero) = after 1
      channel (suc (suc zero)) = after 2
      channel (suc (suc (suc n))) = refl

      marks : (n : ℕ) → (n ≡ k → ⊥) → (channel_of (channels_after ram y.channels) n).muted ≡ (channel_of (channels_after ram s.channels) n).muted
      marks zero f = mark-stays ram _ ∙ h.marks 0 f ∙ sym (mark-stays ram _)
      marks (suc zero) f = mark-stays ram _ ∙ h.marks 1 f ∙ sym (mark-stays ram _)
      marks (suc (suc zero)) f = mark-stays ram _ ∙ h.marks 2 f ∙ sym (mark-stays ram _)
      marks (suc (suc (suc n))) f = refl

  -- one channel changed by what does not ask for its mute mark
  pub set-alike :
      (j : ℕ) (f : Channel → Channel) → ((c : Channel) (m : Bool) → f (with_mute c m) ≡ with_mute (f c) m) → (p q : List ℕ) →
      Alike k (record { channels = set s.channels j (f (channel_of s.channels j)); psg = p })
      (record { channels = set y.channels j (f (channel_of y.channels j)); psg = q })
  set-alike j f g p q =
      record {
        count = length-set y.channels j _ ∙ h.count ∙ sym (length-set s.channels j _);
        channel =
            λ n.
            both-set (λ c d. d ≡ with_mute c d.muted) s.channels y.channels j n _ _ off_channel (sym h.count) (h.channel n)
            (λ e. ap f (h.channel j) ∙ g _ _ ∙ ap (with_mute (f (channel_of s.channels j))) (sym (mark (channel_of y.channels j))));
        marks =
            λ n o.
            both-set (λ c d. d.muted ≡ c.muted) s.channels y.channels j n _ _ off_channel (sym h.count) (h.marks n o)
            (λ e. mark (channel_of y.channels j) ∙ h.marks j (λ z. o (e ∙ z)) ∙ sym (mark (channel_of s.channels j)));
      }
    where
      mark : (c : Channel) → (f c).muted ≡ c.muted
      mark c = ap (λ (d : Channel). d.muted) (g c c.muted)

  -- a channel muted or heard again in both
  pub mute-alike :
      (j : ℕ) (on : Bool) (p q : List ℕ) →
      Alike k (record { channels = channels_muted s.channels j on; psg = p }) (record { channels = channels_muted y.channels j on; psg = q })
  mute-alike j on p q =
      record {
        count = length-set y.channels j _ ∙ h.count ∙ sym (length-set s.channels j _);
        channel =
            λ n.
            both-set (λ c d. d ≡ with_mute c d.muted) s.channels y.channels j n _ _ off_channel (sym h.count) (h.channel n)
            (λ e. ap (λ (c : Channel). with_mute c on) (h.channel j));
        marks =
            λ n o.
            both-set (λ c d. d.muted ≡ c.muted) s.channels y.channels j n _ _ off_channel (sym h.count) (h.marks n o) (λ e. refl);
      }
