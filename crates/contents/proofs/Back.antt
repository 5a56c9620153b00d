-- 02, L5: a write whose former contents are put back at once gives the chip and the store as they were.
use mathlib.Core.Path.{◌≡◌, refl, ap, ◌∙◌}
use mathlib.Core.List.{List}
use Prim.Native.Nat.{ℕ, ◌+◌, ◌*◌, ◌/◌, ◌%◌, ◌<◌}
use native.Mathlib.Nat.{mod-mod, mod-eq_of_lt}
use native.Mathlib.Omega.{arith}
use lib.ListN.{length, get_or, set}
use lib.Seq.{get_or-set_same, set-set, set-get_or}
use Rattle.editors.specs.declared.Editor.{Editor}
use Rattle.sound.specs.declared.Channel.{Channel}
use Rattle.sound.specs.Channels.{with_address}
use Rattle.sound.specs.Line.{channel_of, off_channel}
use Rattle.crtc.specs.declared.Video.{Video}
use Rattle.picture.specs.Palette.{kept_byte_of}
use Rattle.picture.specs.Sprites.{off_sprite, sprite_contents, written}
use Rattle.picture.proofs.SpriteBytes.{sprite-back}
use Rattle.chip.specs.declared.Chip.{Chip}
use Rattle.chip.specs.State.{with_sprites, with_palette, with_video, with_channels}
use Rattle.registers.specs.declared.address.VideoRegister.{VideoRegister}
use Rattle.registers.specs.declared.address.VideoRegister.TheVariants.{Pri, SplitLine, SplitHigh, SplitLow, Sscr}
use Rattle.registers.specs.declared.address.ChannelRegister.{ChannelRegister}
use Rattle.registers.specs.declared.address.ChannelRegister.TheVariants.{StartLow, StartHigh, Prescale}
use Rattle.registers.specs.declared.address.Register.{Register}
use Rattle.registers.specs.declared.address.Register.TheVariants.{Pixel, Sprite as SpriteAt, Palette, Video as VideoAt, Ivr, Converter, Channel as ChannelAt, Dcsr, Status, Empty}
use Rattle.registers.specs.Registers.{channel_written, video_written, register_written, store_put, store_written}
use Rattle.contents.specs.Contents.{channel_contents, video_contents, contents, Holds}
use Rattle.contents.specs.Widths.{ChannelWidths, Widths}

channel-back : (d : Channel) (r : ChannelRegister) (b : ℕ) → b < 256 → ChannelWidths d →
    channel_written (channel_written d r b) r (channel_contents d r) ≡ d
channel-back d StartLow b h w =
    let a = d.address in
    let e : (a / 256 * 256 + b / 2 * 2) / 256 * 256 + a % 256 / 2 * 2 / 2 * 2 ≡ a = omega (arith, w.even) in
    ap (with_address d) e
channel-back d StartHigh b h w =
    let a = d.address in
    let e : a / 256 * 256 + (b * 256 + a % 256) % 256 ≡ a = omega arith in
    ap (with_address d) e
channel-back d Prescale b h w = refl

video-back : (v : Video) (r : VideoRegister) (b : ℕ) → v.split_high < 64 →
    video_written (video_written v r b) r (video_contents v r) ≡ v
video-back v Pri b h = refl
video-back v SplitLine b h = refl
video-back v SplitHigh b h = rw (mod-mod v.split_high 64, mod-eq_of_lt h)
video-back v SplitLow b h = refl
video-back v Sscr b h = refl

-- an element written twice
list_back : {A : Type 0} (l : List A) (n : ℕ) (d : A) (f g : A → A) → n < length l → g (f (get_or l n d)) ≡ get_or l n d →
    set (set l n (f (get_or l n d))) n (g (get_or (set l n (f (get_or l n d))) n d)) ≡ l
list_back l n d f g h e =
    rw (get_or-set_same l n (f (get_or l n d)) d h, e) (set-set l n (f (get_or l n d)) (get_or l n d) ∙ set-get_or l n d)

module _ (c : Chip) (ed : Editor) (store : List ℕ) (b : ℕ) (h : b < 256) (w : Widths c) where
  -- bit for bit the chip
  pub chip-back : (x : Register) → Holds x → register_written (register_written c ed x b) ed x (contents c store x) ≡ c
  chip-back (Pixel i) k = refl
  chip-back (SpriteAt n p) k =
      ap (with_sprites c)
      (list_back c.sprites n off_sprite (λ t. written t p b) (λ t. written t p (sprite_contents (get_or c.sprites n off_sprite) p))
      (omega (arith, w.sixteen)) (sprite-back (get_or c.sprites n off_sprite) p b h (w.sprite n)))
  chip-back (Palette i) k =
      ap (with_palette c)
      (set-set c.palette i (kept_byte_of i b) _ ∙ rw (w.palette i, w.palette i) (set-get_or c.palette i 0))
  chip-back (VideoAt v) k = ap (with_video c) (video-back c.video v b w.video.split_high_fits)
  chip-back Ivr k = refl
  chip-back Converter k = absurd k
  chip-back (ChannelAt n r) k =
      ap (with_channels c)
      (list_back c.sound.channels n off_channel (λ t. channel_written t r b)
      (λ t. channel_written t r (channel_contents (channel_of c.sound.channels n) r)) (omega (arith, w.three))
      (channel-back (channel_of c.sound.channels n) r b h (w.channel n)))
  chip-back Dcsr k = absurd k
  chip-back Status k = absurd k
  chip-back Empty k = absurd k

-- and the store
pub store-back : (c : Chip) (store : List ℕ) (b : ℕ) (x : Register) → store_put (store_written store x b) x (contents c store x) ≡ store
store-back c store b (Pixel i) = set-set store i (b % 16) (get_or store i 0) ∙ set-get_or store i 0
store-back c store b (SpriteAt n p) = refl
store-back c store b (Palette i) = refl
store-back c store b (VideoAt v) = refl
store-back c store b Ivr = refl
store-back c store b Converter = refl
store-back c store b (ChannelAt n r) = refl
store-back c store b Dcsr = refl
store-back c store b Status = refl
store-back c store b Empty = refl
