-- 02, L5: the contents of a register byte, pixels included, are the bits that it keeps.
use Rattle.std.specs.Prelude.{List, ℕ, ◌*◌, ◌/◌, ◌%◌, ◌<◌, get_or}
use Rattle.common.specs.Sizes.{store_bytes}
use Rattle.sound.specs.declared.Channel.{Channel}
use Rattle.sound.specs.Line.{channel_of}
use Rattle.crtc.specs.declared.Video.{Video}
use Rattle.picture.specs.Sprites.{off_sprite, sprite_contents, sprite_kept}
use Rattle.picture.specs.Palette.{kept_byte_of}
use Rattle.chip.specs.declared.Chip.{Chip}
use Rattle.registers.specs.declared.address.VideoRegister.{VideoRegister}
use Rattle.registers.specs.declared.address.VideoRegister.TheVariants.{Pri, SplitLine, SplitHigh, SplitLow, Sscr}
use Rattle.registers.specs.declared.address.ChannelRegister.{ChannelRegister}
use Rattle.registers.specs.declared.address.ChannelRegister.TheVariants.{StartLow, StartHigh, Prescale}
use Rattle.registers.specs.declared.address.Register.{Register}
use Rattle.registers.specs.declared.address.Register.TheVariants.{Pixel, Sprite as SpriteAt, Palette, Video as VideoAt, Ivr, Converter, Channel as ChannelAt, Dcsr, Status, Empty}

-- of PRI, the split's registers and SSCR: of the split address high 6 bits
abbrev pub video_contents : Video → VideoRegister → ℕ
video_contents v Pri = v.pri
video_contents v SplitLine = v.split_line
video_contents v SplitHigh = v.split_high % 64
video_contents v SplitLow = v.split_low
video_contents v Sscr = v.sscr

-- of a channel: the two bytes of its address, wherever lines have moved it, bit 0 left out; the prescale
abbrev pub channel_contents : Channel → ChannelRegister → ℕ
channel_contents d StartLow = d.address % 256 / 2 * 2
channel_contents d StartHigh = d.address / 256
channel_contents d Prescale = d.prescale

-- of any register. A pixel's are the whole byte in the store, of a palette high byte 4 bits. The last four kinds have none: 0
abbrev pub contents : Chip → List ℕ → Register → ℕ
contents c store (Pixel i) = get_or store i 0
contents c store (SpriteAt n p) = sprite_contents (get_or c.sprites n off_sprite) p
contents c store (Palette i) = kept_byte_of i (get_or c.palette i 0)
contents c store (VideoAt v) = video_contents c.video v
contents c store Ivr = c.interrupts.ivr
contents c store (ChannelAt n r) = channel_contents (channel_of c.sound.channels n) r
contents c store Converter = 0
contents c store Dcsr = 0
contents c store Status = 0
contents c store Empty = 0

-- a register of the chip or the store that has contents
abbrev pub Holds : Register → Type 0
Holds (Pixel i) = i < store_bytes
Holds (SpriteAt n p) = (n < 16) × (p < 5)
Holds (Palette i) = i < 64
Holds (VideoAt v) = Unit {0}
Holds Ivr = Unit {0}
Holds (ChannelAt n r) = n < 3
Holds Converter = ⊥
Holds Dcsr = ⊥
Holds Status = ⊥
Holds Empty = ⊥

-- the bits that a write keeps of its byte
abbrev pub video_kept : VideoRegister → ℕ → ℕ
video_kept Pri b = b
video_kept SplitLine b = b
video_kept SplitHigh b = b % 64
video_kept SplitLow b = b
video_kept Sscr b = b

abbrev pub channel_kept : ChannelRegister → ℕ → ℕ
channel_kept StartLow b = b / 2 * 2
channel_kept StartHigh b = b
channel_kept Prescale b = b

-- the same for any register, of a pixel the low 4
abbrev pub bits_kept : Register → ℕ → ℕ
bits_kept (Pixel i) b = b % 16
bits_kept (SpriteAt n p) b = sprite_kept p b
bits_kept (Palette i) b = kept_byte_of i b
bits_kept (VideoAt v) b = video_kept v b
bits_kept Ivr b = b
bits_kept (ChannelAt n r) b = channel_kept r b
bits_kept Converter b = 0
bits_kept Dcsr b = 0
bits_kept Status b = 0
bits_kept Empty b = 0
