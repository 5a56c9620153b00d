-- 01, "Lock and ports": the BCxx write, the 6845 data write, the 7Fxx write.
use Rattle.std.specs.Prelude.{Bool, not, List, ◌∷◌, ℕ, ◌/◌, ◌%◌, eqb}
use Rattle.common.specs.Choice.{if, both, either, bit}
use Rattle.lock.specs.Machine.{fed, Tracks}
use Rattle.crtc.specs.Registers.{has_register, written}
use Rattle.chip.specs.declared.Gate.{Gate}
use Rattle.chip.specs.declared.Chip.{Chip}
use Rattle.chip.specs.declared.Answered.{Answered}
use Rattle.chip.specs.State.{with_lock, with_gate, with_crtc, with_registers, with_raster}
use Rattle.common.specs.Answers.{done, nothing_there}
use Rattle.chip.specs.Promises.{Answers}

-- a BCxx byte selects a 6845 register by its low 5 bits and feeds the lock
unfoldable pub selected : Chip → ℕ → Chip
selected c b =
    with_lock
    (with_crtc c (record c.crtc { selected = b % 32 }))
    (fed c.lock b)

-- what a BCxx write promises: it is always served, and a lock that has been fed a history since reset goes on by this byte, so that
-- it is unlocked exactly as the two patterns say of the bytes
pub record Selects (c : Chip) (b : ℕ) (r : Answered) : Type 0 where
  pub call : Answers done (selected c b) c r
  pub tracks : (h : List ℕ) → Tracks h c.lock → Tracks (b ∷ h) r.chip.lock

-- a data write goes to the selected register; one that isn't kept refuses it
unfoldable pub data_answer : Chip → ℕ
data_answer c = if (has_register c.crtc.selected) done nothing_there

unfoldable pub data_written : Chip → ℕ → Chip
data_written c b = with_registers c (written c.crtc.registers c.crtc.selected b)

-- a 7Fxx byte: its top three bits
abbrev pub top : ℕ → ℕ
top b = b / 32

-- 100 and 101 are served, others not
abbrev pub gate_served : ℕ → Bool
gate_served b = either (eqb (top b) 4) (eqb (top b) 5)

unfoldable pub gate_answer : ℕ → ℕ
gate_answer b = if (gate_served b) done nothing_there

-- 101 when unlocked is for the page; 100, or 101 when locked, is for the mode
abbrev pub for_page : Chip → ℕ → Bool
for_page c b = both (eqb (top b) 5) c.lock.unlocked

-- a byte for the page maps it where bits 4 and 3 are both set, else unmaps it; a byte for the mode has it in bits 1-0
unfoldable pub gate_after : Gate → Bool → ℕ → Gate
gate_after g page b = if page (record g { mapped = eqb (b / 8 % 4) 3 }) (record g { mode = b % 4 })

-- a waiting raster interrupt stays, unless the byte is for the mode and its bit 4 clears it
abbrev pub raster_after : Bool → Bool → ℕ → Bool
raster_after raster page b = both raster (either page (not (bit 4 b)))

unfoldable pub gate_written : Chip → ℕ → Chip
gate_written c b =
    with_raster (with_gate c (gate_after c.gate (for_page c b) b)) (raster_after c.interrupts.raster (for_page c b) b)
