-- 01, "One line": raster compare, split compare, counters, in this order.
use Rattle.std.specs.Prelude.{Bool, true, false, not, ℕ, ◌+◌, ◌*◌, ◌/◌, ◌%◌, eqb, leb}
use Rattle.common.specs.Choice.{if, both}
use Rattle.crtc.specs.declared.Registers.{Registers}
use Rattle.crtc.specs.declared.Counters.{Counters}
use Rattle.crtc.specs.declared.Video.{Video}
use Rattle.crtc.specs.declared.Position.{Position}
use Rattle.crtc.specs.declared.Counted.{Counted}

-- the line's number as the two compares see it: VC mod so many rows, 8 lines each, and RC mod 8
abbrev pub line_number : ℕ → Counters → ℕ
line_number rows c = c.vc % rows * 8 + c.rc % 8

-- raster: PRI is not 0, the line is no adjust line, and PRI is its number with VC mod 64
unfoldable pub raster_due : Video → Counters → Bool
raster_due v c = both (not (eqb v.pri 0)) (both (not c.adjust) (eqb v.pri (line_number 64 c)))

-- split: the split line is not 0 and is the line's number with VC mod 32, and the line is no adjust line with RC
-- of 8 or more
unfoldable pub split_due : Video → Counters → Bool
split_due v c =
    both (not (eqb v.split_line 0))
    (both (eqb v.split_line (line_number 32 c)) (not (both c.adjust (leb 8 c.rc))))

abbrev pub split_address : Video → ℕ
split_address v = v.split_high * 256 + v.split_low

-- where it is due the split address is captured, in place of one that is still held
unfoldable pub captured : Video → Counters → Counters
captured v c =
    if (split_due v c)
    (record {
      vc = c.vc;
      rc = c.rc;
      adjust = c.adjust;
      address = c.address;
      held = true;
      split = split_address v;
    })
    c

-- an adjust line is the last if RC + 1 reaches R5; outside adjust, the last line of the row whose VC is R4 is, if R5 is 0
unfoldable pub frame_ends : Registers → Counters → Bool
frame_ends r c =
    if c.adjust (leb r.r5 (c.rc + 1))
    (both (eqb c.rc r.r9) (both (eqb c.vc r.r4) (eqb r.r5 0)))

-- a frame starts at VC 0, RC 0, with the address from R12 and R13; a held split address stays held
unfoldable pub frame_start : Registers → Counters → Counters
frame_start r c =
    record {
      vc = 0;
      rc = 0;
      adjust = false;
      address = r.r12 * 256 + r.r13;
      held = c.held;
      split = c.split;
    }

-- the next line within the frame. In adjust RC grows. Outside, RC equal to R9 ends a row: RC 0 and VC + 1 mod 128, and
-- adjust begins after the row whose VC is R4; else RC + 1 mod 32
unfoldable pub position_after : Registers → Counters → Position
position_after r c =
    if c.adjust (record { vc = c.vc; rc = c.rc + 1; adjust = true })
    (if (eqb c.rc r.r9) (record { vc = (c.vc + 1) % 128; rc = 0; adjust = eqb c.vc r.r4 })
    (record { vc = c.vc; rc = (c.rc + 1) % 32; adjust = false }))

-- SSCR bits 6-4, the lines of vertical soft scroll
abbrev pub scroll_lines : ℕ → ℕ
scroll_lines sscr = sscr / 16 % 8

-- the screen address of any line but a frame's first: a split address that is held; else R1 more (mod 16,384) if the line before it ended
-- a row of bytes, its RC and the soft scroll (mod 32) being R9; else the same
unfoldable pub address_after : Registers → ℕ → Counters → ℕ
address_after r sscr c =
    if c.held c.split
    (if (eqb ((c.rc + scroll_lines sscr) % 32) r.r9) ((c.address + r.r1) % 16384) c.address)

-- the counters of the next line; entering a line within the frame spends what is held
unfoldable pub next_line : Registers → ℕ → Counters → Counters
next_line r sscr c =
    if (frame_ends r c) (frame_start r c)
    (record {
      vc = (position_after r c).vc;
      rc = (position_after r c).rc;
      adjust = (position_after r c).adjust;
      address = address_after r sscr c;
      held = false;
      split = 0;
    })

-- one line's counting
unfoldable pub line_of : Registers → Video → Counters → Counted
line_of r v c = record { counters = next_line r v.sscr (captured v c); raster = raster_due v c }
