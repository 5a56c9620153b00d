-- 02, L5: a chip within the document's widths, as every run from reset leaves it.
use Rattle.std.specs.Prelude.{◌≡◌, List, ℕ, ◌%◌, ◌<◌, length, get_or}
use Rattle.sound.specs.declared.Channel.{Channel}
use Rattle.sound.specs.Line.{channel_of}
use Rattle.crtc.specs.declared.Video.{Video}
use Rattle.picture.specs.Sprites.{off_sprite, SpriteWidths}
use Rattle.picture.specs.Palette.{kept_byte_of}
use Rattle.chip.specs.declared.Chip.{Chip}

-- a channel's address and mark have 16 bits and are even, since bit 0 of a start address is dropped and a word has two bytes; the
-- prescale is a byte
pub record ChannelWidths (d : Channel) : Type 0 where
  pub even : d.address % 2 ≡ 0
  pub even-mark : d.mark % 2 ≡ 0
  pub address : d.address < 65536
  pub mark : d.mark < 65536
  pub prescale : d.prescale < 256

-- PRI, the split's registers and SSCR are bytes, the split address high 6 bits
pub record VideoWidths (v : Video) : Type 0 where
  pub pri : v.pri < 256
  pub split_line_fits : v.split_line < 256
  pub split_high_fits : v.split_high < 64
  pub split_low_fits : v.split_low < 256
  pub sscr : v.sscr < 256

-- 16 sprites, 64 palette bytes and 3 channels, each within its bits; IVR is a byte
pub record Widths (c : Chip) : Type 0 where
  pub sixteen : length c.sprites ≡ 16
  pub entries : length c.palette ≡ 64
  pub three : length c.sound.channels ≡ 3
  pub sprite : (n : ℕ) → SpriteWidths (get_or c.sprites n off_sprite)
  pub palette : (i : ℕ) → kept_byte_of i (get_or c.palette i 0) ≡ get_or c.palette i 0
  pub colours : (i : ℕ) → get_or c.palette i 0 < 256
  pub video : VideoWidths c.video
  pub channel : (n : ℕ) → ChannelWidths (channel_of c.sound.channels n)
  pub ivr : c.interrupts.ivr < 256

-- a lent buffer has bytes
pub record Bytes (l : List ℕ) : Type 0 where
  pub each : (i : ℕ) → get_or l i 0 < 256
