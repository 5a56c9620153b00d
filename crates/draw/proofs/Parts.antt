-- The parts of a line give its entries, and the promise of `draw` from them.
use mathlib.Core.Path.{◌≡◌, refl, sym, ◌∙◌}
use mathlib.Core.Bool.{Bool, true, false}
use mathlib.Core.List.{List}
use Prim.Native.Nat.{ℕ, ◌*◌, ◌/◌, ◌%◌, ◌<◌}
use native.Mathlib.Omega.{arith}
use borrow.Author.Tests.{eqb-true, le-ltb, le-leb, lt-leb}
use lib.Dec.{eqb, leb, ltb}
use lib.ListN.{length}
use Rattle.common.specs.Answers.{done, wrong_length, mode_three}
use Rattle.common.specs.Choice.{if, both, either, bit}
use Rattle.common.specs.Sizes.{ram_bytes, store_bytes, line_bytes}
use Rattle.crtc.specs.Line.{scroll_lines}
use Rattle.picture.specs.Screen.{row_line}
use Rattle.overlay.specs.Overlay.{Overlay}
use Rattle.overlay.specs.declared.shown.LineSprites.{LineSprites}
use Rattle.common.proofs.Order.{either_side}
use Rattle.chip.specs.declared.Chip.{Chip}
use Rattle.draw.specs.declared.layout.Edges.{Edges}
use Rattle.draw.specs.declared.layout.Main.{Main}
use Rattle.draw.specs.Drawing.{draw_answer, all_border, is_border, frame_line, main_pen, screen_pen, entry_at, Draws}
use Rattle.draw.specs.Mixing.{left_of, right_of, outside, main_at, over_at, mixed_at, Has}

-- after R1 characters is from position 16 x R1 on, which is past the line's end from 40 on
from_r1 : (r1 x : ℕ) → x < 640 → leb (if (leb 40 r1) 640 (r1 * 16)) x ≡ leb r1 (x / 16)
from_r1 r1 x inside =
    either_side r1 40
    (λ few.
    rw (lt-leb 40 r1 few)
    (either_side x (r1 * 16) (λ h. lt-leb (r1 * 16) x h ∙ sym (lt-leb r1 (x / 16) (omega arith)))
    (λ h. le-leb (r1 * 16) x h ∙ sym (le-leb r1 (x / 16) (omega arith)))))
    (λ wide. rw (le-leb 40 r1 wide) (lt-leb 640 x inside ∙ sym (lt-leb r1 (x / 16) (omega arith))))

-- the left edge is SSCR's bit
by_bit : (b : Bool) (x : ℕ) → ltb x (if b 16 0) ≡ both b (ltb x 16)
by_bit true x = refl
by_bit false x = le-ltb x 0 (omega arith)

either_true : (b : Bool) → either b true ≡ true
either_true true = refl
either_true false = refl

either_swap : (a b : Bool) → either a b ≡ either b a
either_swap true b = sym (either_true b)
either_swap false true = refl
either_swap false false = refl

by_all : (all b : Bool) (r1 x : ℕ) → x < 640 →
    either b (leb (if all 0 (if (leb 40 r1) 640 (r1 * 16))) x) ≡ either all (either (leb r1 (x / 16)) b)
by_all true b r1 x h = rw (le-leb 0 x (omega arith)) (either_true b)
by_all false b r1 x h = rw (from_r1 r1 x h) (either_swap b (leb r1 (x / 16)))

-- drawing is served where the buffers have their lengths
pub sizes : (c : Chip) (ram store line : ℕ) → draw_answer c ram store line ≡ done → (ram ≡ ram_bytes) × (store ≡ store_bytes) × (line ≡ line_bytes)
unfolding draw_answer
sizes c ram store line served =
    let t = by-test (eqb ram ram_bytes) (eqb store store_bytes) (eqb line line_bytes) served in
    (eqb-true _ _ t.0, eqb-true _ _ t.1, eqb-true _ _ t.2)
  where
    by-test :
        (t u v : Bool) → if (both t (both u v)) (if (eqb c.gate.mode 3) mode_three done) wrong_length ≡ done → (t ≡ true) × (u ≡ true) × (v ≡ true)
    by-test true true true f = (refl, refl, refl)
    by-test true true false f = absurd (omega (arith, sym f))
    by-test true false v f = absurd (omega (arith, sym f))
    by-test false u v f = absurd (omega (arith, sym f))

-- the edges and the main screen of a chip's line
pub record EdgesOf (c : Chip) (e : Edges) : Type 0 where
  pub left : e.left ≡ left_of c.video.sscr
  pub right : e.right ≡ right_of c.crtc.registers c.crtc.counters

pub record MainOf (c : Chip) (m : Main) : Type 0 where
  pub mode : m.mode ≡ c.gate.mode
  pub address : m.address ≡ c.crtc.counters.address
  pub row : m.row ≡ row_line c.crtc.counters.rc (scroll_lines c.video.sscr)
  pub scroll : m.scroll ≡ c.video.sscr % 16

module _ (c : Chip) where
  -- the edges tell the border
  edges : (x : ℕ) → x < 640 →
      outside (left_of c.video.sscr) (right_of c.crtc.registers c.crtc.counters) x ≡ either (all_border c) (is_border c x)
  unfolding all_border is_border
  edges x h =
      rw (by_bit (bit 7 c.video.sscr) x)
      (by_all (either c.crtc.counters.adjust (leb c.crtc.registers.r6 c.crtc.counters.vc))
      (both (bit 7 c.video.sscr) (ltb x 16)) c.crtc.registers.r1 x h)

  module _ (ram store : List ℕ) {shown : LineSprites} (sprites : Overlay c.sprites (frame_line c) shown) {m : Main} {e : Edges}
      (main : MainOf c m) (border : EdgesOf c e) where
    entry : (x : ℕ) → x < 640 → mixed_at ram m shown store e x ≡ entry_at c ram store x
    unfolding mixed_at over_at entry_at main_at main_pen screen_pen
    entry x h =
        rw (border.left, border.right, edges x h, main.mode, main.address, main.row, main.scroll, sprites.first store x)

    pub served :
        {before after : List ℕ} → 0 ≡ draw_answer c (length ram) (length store) (length before) →
        Has (mixed_at ram m shown store e) 640 after → length after ≡ length before → Draws c ram store before after 0
    served answered has same =
        record {
          answer = answered;
          drawn = λ e x h. has.entry x h ∙ entry x h;
          size = same;
          refused = λ f. absurd (f refl);
        }
