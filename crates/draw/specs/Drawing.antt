-- 01, "Drawing the current line": the palette entry at each of the 640 positions.
use Rattle.std.specs.Prelude.{◌≡◌, Bool, List, ℕ, ◌+◌, ◌-◌, ◌*◌, ◌/◌, ◌%◌, ◌<◌, eqb, leb, ltb, length, get_or}
use Rattle.common.specs.Choice.{if, both, either, bit}
use Rattle.crtc.specs.Line.{scroll_lines}
use Rattle.picture.specs.Screen.{row_line}
use Rattle.screen.specs.MainLine.{line_pen}
use Rattle.overlay.specs.Overlay.{first_pixel}
use Rattle.chip.specs.declared.Chip.{Chip}
use Rattle.common.specs.Answers.{done, wrong_length, mode_three}
use Rattle.common.specs.Sizes.{ram_bytes, store_bytes, line_bytes}

-- 1 for a buffer of another length, then 4 for mode 3
unfoldable pub draw_answer : Chip → ℕ → ℕ → ℕ → ℕ
draw_answer c ram store line =
    if (both (eqb ram ram_bytes) (both (eqb store store_bytes) (eqb line line_bytes))) (if (eqb c.gate.mode 3) mode_three done) wrong_length

-- in adjust, or with VC at R6 or more, the whole line is border
unfoldable pub all_border : Chip → Bool
all_border c = either c.crtc.counters.adjust (leb c.crtc.registers.r6 c.crtc.counters.vc)

-- x is border from character R1 on, and below 16 if SSCR bit 7 is set
unfoldable pub is_border : Chip → ℕ → Bool
is_border c x =
    either (leb c.crtc.registers.r1 (x / 16)) (both (bit 7 c.video.sscr) (ltb x 16))

-- the line of the frame that sprites count in: VC x (R9 + 1) + RC
abbrev pub frame_line : Chip → ℕ
frame_line c = c.crtc.counters.vc * (c.crtc.registers.r9 + 1) + c.crtc.counters.rc

-- at x, the pixel of the lowest-numbered sprite that has one that is not 0, else 0
abbrev pub sprite_pixel : Chip → List ℕ → ℕ → ℕ
sprite_pixel c store x = first_pixel store c.sprites (frame_line c) x 16

-- SSCR bits 3-0, the positions of horizontal soft scroll
abbrev pub scroll_positions : Chip → ℕ
scroll_positions c = c.video.sscr % 16

-- the main screen's pen at a position p, counted from where the scroll starts
unfoldable pub screen_pen : Chip → List ℕ → ℕ → ℕ
screen_pen c ram p =
    line_pen ram c.gate.mode c.crtc.counters.address
    (row_line c.crtc.counters.rc (scroll_lines c.video.sscr)) p

-- the main pen at x: pen 0 left of the scroll
unfoldable pub main_pen : Chip → List ℕ → ℕ → ℕ
main_pen c ram x = if (ltb x (scroll_positions c)) 0 (screen_pen c ram (x - scroll_positions c))

-- border comes first, then the sprites by their order, then the main pen
unfoldable pub entry_at : Chip → List ℕ → List ℕ → ℕ → ℕ
entry_at c ram store x =
    if (either (all_border c) (is_border c x)) 16
    (if (eqb (sprite_pixel c store x) 0) (main_pen c ram x) (16 + sprite_pixel c store x))

-- what drawing promises: the answer; served, every one of the 640 bytes; refused, the line as it was
pub record Draws (c : Chip) (ram store before after : List ℕ) (r : ℕ) : Type 0 where
  pub answer : r ≡ draw_answer c (length ram) (length store) (length before)
  pub drawn : r ≡ done → (x : ℕ) → x < line_bytes → get_or after x 0 ≡ entry_at c ram store x
  pub size : length after ≡ length before
  pub refused : (r ≡ done → ⊥) → after ≡ before
