-- The chip with one part changed.
use Rattle.std.specs.Prelude.{Bool, List, ℕ}
use Rattle.lock.specs.declared.Lock.{Lock}
use Rattle.sound.specs.declared.Channel.{Channel}
use Rattle.sound.specs.declared.Sound.{Sound}
use Rattle.crtc.specs.declared.Registers.{Registers}
use Rattle.crtc.specs.declared.Counters.{Counters}
use Rattle.crtc.specs.declared.Video.{Video}
use Rattle.picture.specs.declared.sprite.Sprite.{Sprite}
use Rattle.chip.specs.declared.Gate.{Gate}
use Rattle.chip.specs.declared.Crtc.{Crtc}
use Rattle.chip.specs.declared.Interrupts.{Interrupts}
use Rattle.chip.specs.declared.Editing.{Editing}
use Rattle.chip.specs.declared.Chip.{Chip}

abbrev pub with_lock : Chip → Lock → Chip
with_lock c x = record c { lock = x }

abbrev pub with_gate : Chip → Gate → Chip
with_gate c x = record c { gate = x }

abbrev pub with_crtc : Chip → Crtc → Chip
with_crtc c x = record c { crtc = x }

abbrev pub with_video : Chip → Video → Chip
with_video c x = record c { video = x }

abbrev pub with_sprites : Chip → List Sprite → Chip
with_sprites c x = record c { sprites = x }

abbrev pub with_palette : Chip → List ℕ → Chip
with_palette c x = record c { palette = x }

abbrev pub with_sound : Chip → Sound → Chip
with_sound c x = record c { sound = x }

abbrev pub with_interrupts : Chip → Interrupts → Chip
with_interrupts c x = record c { interrupts = x }

abbrev pub with_editing : Chip → Editing → Chip
with_editing c x = record c { editing = x }

-- the three channels changed, the PSG kept
abbrev pub with_channels : Chip → List Channel → Chip
with_channels c cs = with_sound c (record c.sound { channels = cs })

abbrev pub with_registers : Chip → Registers → Chip
with_registers c r = with_crtc c (record c.crtc { registers = r })

abbrev pub with_counters : Chip → Counters → Chip
with_counters c x = with_crtc c (record c.crtc { counters = x })

abbrev pub with_raster : Chip → Bool → Chip
with_raster c b = with_interrupts c (record c.interrupts { raster = b })

abbrev pub with_ivr : Chip → ℕ → Chip
with_ivr c b = with_interrupts c (record c.interrupts { ivr = b })
