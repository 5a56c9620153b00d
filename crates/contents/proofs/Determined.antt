-- 02, L5: contents determine the rest: chips within the widths and stores with the same contents at every register have the same
-- pixels, sprites, palette, screen registers, IVR, start addresses and prescales.
use mathlib.Core.Path.{◌≡◌, refl, sym, ◌∙◌}
use mathlib.Core.List.{List}
use Prim.Native.Nat.{ℕ}
use native.Mathlib.Nat.{mod-eq_of_lt}
use native.Mathlib.Omega.{arith}
use lib.ListN.{length, get_or}
use lib.Seq.{ext_get_or}
use Rattle.sound.specs.Line.{channel_of}
use Rattle.crtc.specs.declared.Video.{Video}
use Rattle.picture.specs.Sprites.{off_sprite, sprite_bytes, sprite_contents}
use Rattle.picture.proofs.SpriteBytes.{bytes_tell}
use Rattle.chip.specs.declared.Chip.{Chip}
use Rattle.registers.specs.declared.address.VideoRegister.TheVariants.{Pri, SplitLine, SplitHigh, SplitLow, Sscr}
use Rattle.registers.specs.declared.address.ChannelRegister.TheVariants.{StartLow, StartHigh, Prescale}
use Rattle.registers.specs.declared.address.Register.{Register}
use Rattle.registers.specs.declared.address.Register.TheVariants.{Pixel, Sprite as SpriteAt, Palette, Video as VideoAt, Ivr, Channel as ChannelAt}
use Rattle.contents.specs.Contents.{contents}
use Rattle.contents.specs.Widths.{Widths}

video_of_lem : (a b c d e : ℕ) (w : Video) → a ≡ w.pri → b ≡ w.split_line → c ≡ w.split_high → d ≡ w.split_low → e ≡ w.sscr →
    record { pri = a; split_line = b; split_high = c; split_low = d; sscr = e } ≡ w
video_of_lem a b c d e w f g h i j = rw (f, g, h, i, j)

module _ (c d : Chip) (s t : List ℕ) (wc : Widths c) (wd : Widths d)
    (same : (x : Register) → contents c s x ≡ contents d t x) where
  pub same_store : length s ≡ length t → s ≡ t
  same_store long = ext_get_or 0 s t long (λ i h. same (Pixel i))

  pub same-palette : c.palette ≡ d.palette
  same-palette =
      ext_get_or 0 c.palette d.palette (wc.entries ∙ sym wd.entries)
      (λ i h. sym (wc.palette i) ∙ same (Palette i) ∙ wd.palette i)

  same-sprite : (n : ℕ) → get_or c.sprites n off_sprite ≡ get_or d.sprites n off_sprite
  unfolding sprite_contents
  same-sprite n =
      bytes_tell (get_or c.sprites n off_sprite) (get_or d.sprites n off_sprite) (wc.sprite n) (wd.sprite n)
      (ext_get_or 0 (sprite_bytes (get_or c.sprites n off_sprite)) (sprite_bytes (get_or d.sprites n off_sprite)) refl
      (λ p h. same (SpriteAt n p)))

  pub same-sprites : c.sprites ≡ d.sprites
  same-sprites = ext_get_or off_sprite c.sprites d.sprites (wc.sixteen ∙ sym wd.sixteen) (λ n h. same-sprite n)

  pub same-video : c.video ≡ d.video
  same-video =
      video_of_lem c.video.pri c.video.split_line c.video.split_high c.video.split_low c.video.sscr d.video
      (same (VideoAt Pri)) (same (VideoAt SplitLine))
      (sym (mod-eq_of_lt wc.video.split_high_fits) ∙ same (VideoAt SplitHigh) ∙ mod-eq_of_lt wd.video.split_high_fits)
      (same (VideoAt SplitLow)) (same (VideoAt Sscr))

  pub same-ivr : c.interrupts.ivr ≡ d.interrupts.ivr
  same-ivr = same Ivr

  pub same_address : (n : ℕ) → (channel_of c.sound.channels n).address ≡ (channel_of d.sound.channels n).address
  same_address n =
      omega (arith, same (ChannelAt n StartLow), same (ChannelAt n StartHigh), (wc.channel n).even, (wd.channel n).even)

  pub same-prescale : (n : ℕ) → (channel_of c.sound.channels n).prescale ≡ (channel_of d.sound.channels n).prescale
  same-prescale n = same (ChannelAt n Prescale)
