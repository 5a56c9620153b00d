-- 01, "The register page", with 02, L9: what a byte that an editor writes to a register does, and what a register reads as to it.
use Rattle.std.specs.Prelude.{Bool, false, not, List, [], ◌∷◌, ℕ, ◌+◌, ◌-◌, ◌*◌, ◌/◌, ◌%◌, ltb, get_or, set}
use Rattle.common.specs.Answers.{done, nothing_there, converter_there, not_yours}
use Rattle.common.specs.Choice.{if, both, bit}
use Rattle.editors.specs.declared.Editor.{Editor}
use Rattle.editors.specs.declared.Table.{Table}
use Rattle.sound.specs.declared.Channel.{Channel}
use Rattle.sound.specs.Channels.{with_address, with_flags}
use Rattle.sound.specs.Line.{channel_of}
use Rattle.crtc.specs.declared.Video.{Video}
use Rattle.picture.specs.declared.sprite.Sprite.{Sprite}
use Rattle.picture.specs.Sprites.{off_sprite, written, shown}
use Rattle.picture.specs.Palette.{kept_byte_of}
use Rattle.chip.specs.declared.Chip.{Chip}
use Rattle.chip.specs.State.{with_video, with_sprites, with_palette, with_channels, with_ivr}
use Rattle.registers.specs.declared.address.VideoRegister.{VideoRegister}
use Rattle.registers.specs.declared.address.VideoRegister.TheVariants.{Pri, SplitLine, SplitHigh, SplitLow, Sscr}
use Rattle.registers.specs.declared.address.ChannelRegister.{ChannelRegister}
use Rattle.registers.specs.declared.address.ChannelRegister.TheVariants.{StartLow, StartHigh, Prescale}
use Rattle.registers.specs.declared.address.Register.{Register}
use Rattle.registers.specs.declared.address.Register.TheVariants.{Pixel, Sprite as SpriteAt, Palette, Video as VideoAt, Ivr, Converter, Channel as ChannelAt, Dcsr, Status, Empty}
use Rattle.registers.specs.Owners.{owns, owns_channel}

-- what a write answers where a register keeps contents: one that is not the editor's is refused
abbrev pub owner_answer : Bool → ℕ
owner_answer owned = if owned done not_yours

-- what a write to any register answers: DCSR is served for both editors; a converter has a number of its own; no register, or one
-- that only shows DCSR, has another
abbrev pub register_answer : Table → Editor → Register → ℕ
register_answer t e (Pixel i) = owner_answer (owns t e (Pixel i))
register_answer t e (SpriteAt n p) = owner_answer (owns t e (SpriteAt n p))
register_answer t e (Palette i) = owner_answer (owns t e (Palette i))
register_answer t e (VideoAt v) = owner_answer (owns t e (VideoAt v))
register_answer t e Ivr = owner_answer (owns t e Ivr)
register_answer t e Converter = converter_there
register_answer t e (ChannelAt n r) = owner_answer (owns t e (ChannelAt n r))
register_answer t e Dcsr = done
register_answer t e Status = nothing_there
register_answer t e Empty = nothing_there

-- sprite n's register at this place gets the byte
abbrev pub sprite_written : List Sprite → ℕ → ℕ → ℕ → List Sprite
sprite_written sprites n place b = set sprites n (written (get_or sprites n off_sprite) place b)

-- a split address high keeps 6 bits
abbrev pub video_written : Video → VideoRegister → ℕ → Video
video_written v Pri b =
    record {
      pri = b;
      split_line = v.split_line;
      split_high = v.split_high;
      split_low = v.split_low;
      sscr = v.sscr;
    }
video_written v SplitLine b =
    record {
      pri = v.pri;
      split_line = b;
      split_high = v.split_high;
      split_low = v.split_low;
      sscr = v.sscr;
    }
video_written v SplitHigh b =
    record {
      pri = v.pri;
      split_line = v.split_line;
      split_high = b % 64;
      split_low = v.split_low;
      sscr = v.sscr;
    }
video_written v SplitLow b =
    record {
      pri = v.pri;
      split_line = v.split_line;
      split_high = v.split_high;
      split_low = b;
      sscr = v.sscr;
    }
video_written v Sscr b =
    record {
      pri = v.pri;
      split_line = v.split_line;
      split_high = v.split_high;
      split_low = v.split_low;
      sscr = b;
    }

-- a start address low, of which bit 0 is dropped, and high are the two bytes of the channel's address; the prescale is all 8 bits.
-- Pause, line count, loop counter, mark, enable and interrupt stay
abbrev pub channel_written : Channel → ChannelRegister → ℕ → Channel
channel_written d StartLow b = with_address d (d.address / 256 * 256 + b / 2 * 2)
channel_written d StartHigh b = with_address d (b * 256 + d.address % 256)
channel_written d Prescale b =
    record {
      enabled = d.enabled;
      interrupt = d.interrupt;
      address = d.address;
      prescale = b;
      pause = d.pause;
      count = d.count;
      counter = d.counter;
      mark = d.mark;
      muted = d.muted;
    }

abbrev pub channels_written : List Channel → ℕ → ChannelRegister → ℕ → List Channel
channels_written cs n r b = set cs n (channel_written (channel_of cs n) r b)

-- a DCSR write sets channel n's enable from bit n, and a 1 in bit 6 - n clears its interrupt
abbrev pub control_written : ℕ → ℕ → Channel → Channel
control_written b n d = with_flags d (bit n b) (if (bit (6 - n) b) false d.interrupt)

-- and only where the channel is the editor's
abbrev pub control_by : Table → Editor → ℕ → ℕ → Channel → Channel
control_by t e b n d = if (owns_channel t e n) (control_written b n d) d

abbrev pub dcsr_written : Table → Editor → List Channel → ℕ → List Channel
dcsr_written t e cs b =
    control_by t e b 0 (channel_of cs 0) ∷ control_by t e b 1 (channel_of cs 1) ∷ control_by t e b 2 (channel_of cs 2) ∷ []

-- the chip after an editor's byte is written to a register; pixels are in the store and not in the chip
abbrev pub register_written : Chip → Editor → Register → ℕ → Chip
register_written c e (Pixel i) b = c
register_written c e (SpriteAt n p) b = with_sprites c (sprite_written c.sprites n p b)
register_written c e (Palette i) b = with_palette c (set c.palette i (kept_byte_of i b))
register_written c e (VideoAt v) b = with_video c (video_written c.video v b)
register_written c e Ivr b = with_ivr c b
register_written c e Converter b = c
register_written c e (ChannelAt n r) b = with_channels c (channels_written c.sound.channels n r b)
register_written c e Dcsr b = with_channels c (dcsr_written c.editing.table e c.sound.channels b)
register_written c e Status b = c
register_written c e Empty b = c

-- the store with a byte at a pixel's place; any other register leaves it
abbrev pub store_put : List ℕ → Register → ℕ → List ℕ
store_put store (Pixel i) b = set store i b
store_put store (SpriteAt n p) b = store
store_put store (Palette i) b = store
store_put store (VideoAt v) b = store
store_put store Ivr b = store
store_put store Converter b = store
store_put store (ChannelAt n r) b = store
store_put store Dcsr b = store
store_put store Status b = store
store_put store Empty b = store

-- the store after a byte is written: of a pixel only the low 4 bits are stored
abbrev pub store_written : List ℕ → Register → ℕ → List ℕ
store_written store x b = store_put store x (b % 16)

-- a weight if the test holds, else 0
abbrev pub flag : Bool → ℕ → ℕ
flag b weight = if b weight 0

-- a channel's bit of DCSR, which its owner alone is shown
abbrev pub channel_flag : Table → Editor → ℕ → Bool → ℕ → ℕ
channel_flag t e n b weight = flag (both (owns_channel t e n) b) weight

-- DCSR as an editor reads it: bit 7 if the last acknowledge was raster and no table holds, bits 6, 5, 4 the interrupts of channels 0,
-- 1, 2, bit 3 zero, bits 2-0 the enables
unfoldable pub dcsr : Chip → Editor → ℕ
dcsr c e =
    flag (both (not c.editing.table.held) c.interrupts.last_raster) 128
    + channel_flag c.editing.table e 0 (channel_of c.sound.channels 0).interrupt 64
    + channel_flag c.editing.table e 1 (channel_of c.sound.channels 1).interrupt 32
    + channel_flag c.editing.table e 2 (channel_of c.sound.channels 2).interrupt 16
    + channel_flag c.editing.table e 2 (channel_of c.sound.channels 2).enabled 4
    + channel_flag c.editing.table e 1 (channel_of c.sound.channels 1).enabled 2
    + channel_flag c.editing.table e 0 (channel_of c.sound.channels 0).enabled 1

-- what a register reads as to an editor; one that can't be read gives the bus byte: magnification, 6800h to 6805h, and where nothing is
abbrev pub register_read : Chip → Editor → List ℕ → Register → ℕ → ℕ
register_read c e store (Pixel i) bus = get_or store i 0 % 16
register_read c e store (SpriteAt n p) bus = if (ltb p 4) (shown (get_or c.sprites n off_sprite) p) bus
register_read c e store (Palette i) bus = kept_byte_of i (get_or c.palette i 0)
register_read c e store (VideoAt v) bus = bus
register_read c e store Ivr bus = bus
register_read c e store Converter bus = 0
register_read c e store (ChannelAt n r) bus = dcsr c e
register_read c e store Dcsr bus = dcsr c e
register_read c e store Status bus = dcsr c e
register_read c e store Empty bus = bus
