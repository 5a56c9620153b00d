-- 01, "The chip we model": the chip after reset.
use Rattle.std.specs.Prelude.{◌≡◌, false, [], replicate}
use Rattle.editors.specs.Table.{no_table}
use Rattle.lists.specs.Area.{no_lists}
use Rattle.lock.specs.Machine.{reset_lock, Tracks}
use Rattle.sound.specs.Line.{off_channel}
use Rattle.sound.specs.declared.Sound.{Sound}
use Rattle.crtc.specs.declared.Video.{Video}
use Rattle.picture.specs.Sprites.{off_sprite}
use Rattle.chip.specs.declared.Crtc.{Crtc}
use Rattle.chip.specs.declared.Chip.{Chip}
use Rattle.chip.specs.Editors.{no_entries}

-- all registers and counters 0; the first line has screen address 0
abbrev pub reset_crtc : Crtc
reset_crtc =
    record {
      selected = 0;
      registers = record { r1 = 0; r4 = 0; r5 = 0; r6 = 0; r9 = 0; r12 = 0; r13 = 0 };
      counters = record { vc = 0; rc = 0; adjust = false; address = 0; held = false; split = 0 };
    }

abbrev pub reset_video : Video
reset_video = record { pri = 0; split_line = 0; split_high = 0; split_low = 0; sscr = 0 }

-- all channels off, all PSG registers 0
abbrev pub reset_sound : Sound
reset_sound = record { channels = replicate 3 off_channel; psg = replicate 16 0 }

-- locked, page not mapped, all sprites off, the palette 0, no interrupt waiting, IVR 01h; no table, nothing to undo, and no area for lists
unfoldable pub reset_chip : Chip
reset_chip =
    record {
      lock = reset_lock;
      gate = record { mode = 0; mapped = false };
      crtc = reset_crtc;
      video = reset_video;
      sprites = replicate 16 off_sprite;
      palette = replicate 64 0;
      sound = reset_sound;
      interrupts = record { raster = false; last_raster = false; ivr = 1 };
      editing = record { table = no_table; song = no_entries; picture = no_entries; lists = no_lists };
    }

-- what reset promises: the chip, and a lock that has been fed no byte
pub record Reset (r : Chip) : Type 0 where
  pub chip : r ≡ reset_chip
  pub tracks : Tracks [] r.lock
