-- 02, L5: within the widths: so after reset, and kept by every write.
use mathlib.Core.Path.{◌≡◌, refl}
use mathlib.Core.Bool.{Bool, true, false}
use mathlib.Core.List.{List}
use Prim.Native.Nat.{ℕ, zero, suc, ◌%◌, ◌<◌}
use native.Mathlib.Nat.{mod-lt}
use native.Mathlib.Omega.{arith}
use lib.Dec.{eqb}
use lib.ListN.{length, get_or, replicate, length-set}
use Rattle.common.specs.Choice.{if}
use Rattle.common.proofs.Lists.{after-set}
use Rattle.editors.specs.declared.Editor.{Editor}
use Rattle.editors.specs.declared.Table.{Table}
use Rattle.sound.specs.declared.Channel.{Channel}
use Rattle.sound.specs.declared.Sound.{Sound}
use Rattle.sound.specs.Channels.{with_flags}
use Rattle.sound.specs.Line.{channel_of, off_channel}
use Rattle.crtc.specs.declared.Video.{Video}
use Rattle.picture.specs.Palette.{kept_byte_of}
use Rattle.picture.specs.Sprites.{off_sprite, coordinate, written, SpriteWidths}
use Rattle.picture.specs.declared.sprite.Sprite.{Sprite}
use Rattle.picture.proofs.SpriteBytes.{written-widths, contents-byte}
use Rattle.chip.specs.declared.Chip.{Chip}
use Rattle.chip.specs.declared.Interrupts.{Interrupts}
use Rattle.chip.specs.Reset.{reset_chip}
use Rattle.chip.specs.State.{with_sprites, with_palette, with_video, with_sound, with_interrupts}
use Rattle.registers.specs.declared.address.VideoRegister.{VideoRegister}
use Rattle.registers.specs.declared.address.VideoRegister.TheVariants.{Pri, SplitLine, SplitHigh, SplitLow, Sscr}
use Rattle.registers.specs.declared.address.ChannelRegister.{ChannelRegister}
use Rattle.registers.specs.declared.address.ChannelRegister.TheVariants.{StartLow, StartHigh, Prescale}
use Rattle.registers.specs.declared.address.Register.{Register}
use Rattle.registers.specs.declared.address.Register.TheVariants.{Pixel, Sprite as SpriteAt, Palette, Video as VideoAt, Ivr, Converter, Channel as ChannelAt, Dcsr, Status, Empty}
use Rattle.registers.specs.Owners.{owns_channel}
use Rattle.registers.specs.Registers.{channel_written, video_written, control_written, dcsr_written, register_written}
use Rattle.contents.specs.Contents.{contents}
use Rattle.contents.specs.Widths.{ChannelWidths, VideoWidths, Widths, Bytes}
use Rattle.contents.proofs.ContentsLaws.{kept-twice}

off-widths : SpriteWidths off_sprite
unfolding coordinate
off-widths = record { x_width = refl; y_width = refl; scales = refl }

same-each : {A : Type 0} (P : A → Type 0) (n : ℕ) (a : A) → P a → (i : ℕ) → P (get_or (replicate n a) i a)
same-each P zero a h i = h
same-each P (suc n) a h zero = h
same-each P (suc n) a h (suc i) = same-each P n a h i

zero-kept : (i : ℕ) → kept_byte_of i 0 ≡ 0
unfolding kept_byte_of
zero-kept i = go (eqb (i % 2) 0)
  where
    go : (t : Bool) → ◌≡◌ {A = ℕ} (if t 0 0) 0
    go true = refl
    go false = refl

-- a byte kept is a byte
kept_byte : (i b : ℕ) → b < 256 → kept_byte_of i b < 256
unfolding kept_byte_of
kept_byte i b h = go (eqb (i % 2) 0)
  where
    go : (t : Bool) → if t b (b % 16) < 256
    go true = h
    go false = omega (arith, mod-lt b {m = 16} (omega arith))

pub off-channel : ChannelWidths off_channel
off-channel =
    record {
      even = refl;
      even-mark = refl;
      address = omega arith;
      mark = omega arith;
      prescale = omega arith;
    }

pub reset_widths : Widths reset_chip
unfolding reset_chip
reset_widths =
    record {
      sixteen = refl;
      entries = refl;
      three = refl;
      sprite = same-each SpriteWidths 16 off_sprite off-widths;
      palette = λ i. same-each (λ b. kept_byte_of i b ≡ b) 64 0 (zero-kept i) i;
      colours = same-each (λ b. b < 256) 64 0 (omega arith);
      video =
          record {
            pri = omega arith;
            split_line_fits = omega arith;
            split_high_fits = omega arith;
            split_low_fits = omega arith;
            sscr = omega arith;
          };
      channel = same-each ChannelWidths 3 off_channel off-channel;
      ivr = omega arith;
    }

channel-widths : (d : Channel) (r : ChannelRegister) (b : ℕ) → b < 256 → ChannelWidths d → ChannelWidths (channel_written d r b)
channel-widths d StartLow b h w =
    record {
      even = omega arith;
      even-mark = w.even-mark;
      address = omega (arith, w.address);
      mark = w.mark;
      prescale = w.prescale;
    }
channel-widths d StartHigh b h w =
    record {
      even = omega (arith, w.even);
      even-mark = w.even-mark;
      address = omega arith;
      mark = w.mark;
      prescale = w.prescale;
    }
channel-widths d Prescale b h w =
    record { even = w.even; even-mark = w.even-mark; address = w.address; mark = w.mark; prescale = h }

video-widths : (v : Video) (r : VideoRegister) (b : ℕ) → b < 256 → VideoWidths v → VideoWidths (video_written v r b)
video-widths v Pri b h w =
    record { pri = h; split_line_fits = w.split_line_fits; split_high_fits = w.split_high_fits; split_low_fits = w.split_low_fits; sscr = w.sscr }
video-widths v SplitLine b h w =
    record { pri = w.pri; split_line_fits = h; split_high_fits = w.split_high_fits; split_low_fits = w.split_low_fits; sscr = w.sscr }
video-widths v SplitHigh b h w =
    record { pri = w.pri; split_line_fits = w.split_line_fits; split_high_fits = omega arith; split_low_fits = w.split_low_fits; sscr = w.sscr }
video-widths v SplitLow b h w =
    record { pri = w.pri; split_line_fits = w.split_line_fits; split_high_fits = w.split_high_fits; split_low_fits = h; sscr = w.sscr }
video-widths v Sscr b h w =
    record { pri = w.pri; split_line_fits = w.split_line_fits; split_high_fits = w.split_high_fits; split_low_fits = w.split_low_fits; sscr = h }

-- other flags leave a channel within its widths
flagged : (d : Channel) {enabled interrupt : Bool} → ChannelWidths d → ChannelWidths (with_flags d enabled interrupt)
flagged d w =
    record { even = w.even; even-mark = w.even-mark; address = w.address; mark = w.mark; prescale = w.prescale }

controlled : (own : Bool) (b n : ℕ) (d : Channel) → ChannelWidths d → ChannelWidths (if own (control_written b n d) d)
controlled true b n d w = flagged d w
controlled false b n d w = w

control-widths :
    (t : Table) (ed : Editor) (cs : List Channel) (b n : ℕ) → ((n : ℕ) → ChannelWidths (channel_of cs n)) →
    ChannelWidths (channel_of (dcsr_written t ed cs b) n)
control-widths t ed cs b zero w = controlled (owns_channel t ed 0) b 0 (channel_of cs 0) (w 0)
control-widths t ed cs b (suc zero) w = controlled (owns_channel t ed 1) b 1 (channel_of cs 1) (w 1)
control-widths t ed cs b (suc (suc zero)) w = controlled (owns_channel t ed 2) b 2 (channel_of cs 2) (w 2)
control-widths t ed cs b (suc (suc (suc n))) w = off-channel

-- one block of a chip within the widths replaced by another that is
module _ (c : Chip) (w : Widths c) where
  pub with-sprites :
      (l : List Sprite) → length l ≡ 16 → ((n : ℕ) → SpriteWidths (get_or l n off_sprite)) → Widths (with_sprites c l)
  with-sprites l e f =
      record {
        sixteen = e;
        entries = w.entries;
        three = w.three;
        sprite = f;
        palette = w.palette;
        colours = w.colours;
        video = w.video;
        channel = w.channel;
        ivr = w.ivr;
      }

  pub with-palette :
      (l : List ℕ) → length l ≡ 64 → ((i : ℕ) → kept_byte_of i (get_or l i 0) ≡ get_or l i 0) → ((i : ℕ) → get_or l i 0 < 256) →
      Widths (with_palette c l)
  with-palette l e f g =
      record {
        sixteen = w.sixteen;
        entries = e;
        three = w.three;
        sprite = w.sprite;
        palette = f;
        colours = g;
        video = w.video;
        channel = w.channel;
        ivr = w.ivr;
      }

  pub with-video : (v : Video) → VideoWidths v → Widths (with_video c v)
  with-video v f =
      record {
        sixteen = w.sixteen;
        entries = w.entries;
        three = w.three;
        sprite = w.sprite;
        palette = w.palette;
        colours = w.colours;
        video = f;
        channel = w.channel;
        ivr = w.ivr;
      }

  pub with-sound :
      (s : Sound) → length s.channels ≡ 3 → ((n : ℕ) → ChannelWidths (channel_of s.channels n)) → Widths (with_sound c s)
  with-sound s e f =
      record {
        sixteen = w.sixteen;
        entries = w.entries;
        three = e;
        sprite = w.sprite;
        palette = w.palette;
        colours = w.colours;
        video = w.video;
        channel = f;
        ivr = w.ivr;
      }

  pub with-interrupts : (i : Interrupts) → i.ivr < 256 → Widths (with_interrupts c i)
  with-interrupts i f =
      record {
        sixteen = w.sixteen;
        entries = w.entries;
        three = w.three;
        sprite = w.sprite;
        palette = w.palette;
        colours = w.colours;
        video = w.video;
        channel = w.channel;
        ivr = f;
      }

-- every write keeps to the widths
pub write-widths : (c : Chip) (ed : Editor) (x : Register) (b : ℕ) → b < 256 → Widths c → Widths (register_written c ed x b)
write-widths c ed (Pixel i) b h w = w
write-widths c ed (SpriteAt n p) b h w =
    with-sprites c w _ (rw (length-set c.sprites n (written (get_or c.sprites n off_sprite) p b)) w.sixteen)
    (λ m.
    after-set SpriteWidths c.sprites n m _ off_sprite (w.sprite m)
    (λ e. written-widths (get_or c.sprites n off_sprite) p b h (w.sprite n)))
write-widths c ed (Palette i) b h w =
    with-palette c w _ (rw (length-set c.palette i (kept_byte_of i b)) w.entries)
    (λ j. after-set (λ v. kept_byte_of j v ≡ v) c.palette i j _ 0 (w.palette j) (λ e. rw e (kept-twice i b)))
    (λ j. after-set (λ v. v < 256) c.palette i j _ 0 (w.colours j) (λ e. kept_byte i b h))
write-widths c ed (VideoAt v) b h w = with-video c w (video_written c.video v b) (video-widths c.video v b h w.video)
write-widths c ed Ivr b h w = with-interrupts c w _ h
write-widths c ed Converter b h w = w
write-widths c ed (ChannelAt n r) b h w =
    with-sound c w _ (rw (length-set c.sound.channels n (channel_written (channel_of c.sound.channels n) r b)) w.three)
    (λ m.
    after-set ChannelWidths c.sound.channels n m _ off_channel (w.channel m)
    (λ e. channel-widths (channel_of c.sound.channels n) r b h (w.channel n)))
write-widths c ed Dcsr b h w = with-sound c w _ refl (λ n. control-widths c.editing.table ed c.sound.channels b n w.channel)
write-widths c ed Status b h w = w
write-widths c ed Empty b h w = w

-- within the widths, contents are bytes
pub contents-small : (c : Chip) (store : List ℕ) → Widths c → Bytes store → (x : Register) → contents c store x < 256
contents-small c store w s (Pixel i) = s.each i
contents-small c store w s (SpriteAt n p) = contents-byte (get_or c.sprites n off_sprite) p
contents-small c store w s (Palette i) = kept_byte i (get_or c.palette i 0) (w.colours i)
contents-small c store w s (VideoAt v) =
    elim v as (λ k. contents c store (VideoAt k) < 256) [
      | Pri ↦ w.video.pri
      | SplitLine ↦ w.video.split_line_fits
      | SplitHigh ↦ omega arith
      | SplitLow ↦ w.video.split_low_fits
      | Sscr ↦ w.video.sscr
    ]
contents-small c store w s Ivr = w.ivr
contents-small c store w s Converter = omega arith
contents-small c store w s (ChannelAt n r) =
    elim r as (λ k. contents c store (ChannelAt n k) < 256)
    [ StartLow ↦ omega arith | StartHigh ↦ omega (arith, (w.channel n).address) | Prescale ↦ (w.channel n).prescale ]
contents-small c store w s Dcsr = omega arith
contents-small c store w s Status = omega arith
contents-small c store w s Empty = omega arith
