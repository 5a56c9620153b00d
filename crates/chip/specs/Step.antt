-- 01, "One line": the line step. Sound, raster compare, split compare, counters.
use Rattle.std.specs.Prelude.{◌≡◌, false, List, [], ◌∷◌, ℕ, ◌≤◌, eqb, length}
use Rattle.common.specs.Choice.{if, either}
use Rattle.sound.specs.declared.Accesses.{Accesses}
use Rattle.sound.specs.declared.Report.{Report}
use Rattle.sound.specs.declared.Sound.{Sound}
use Rattle.sound.specs.declared.Did.TheVariants.{SatOut}
use Rattle.sound.specs.Line.{entry_of, sound_after, sound_report}
use Rattle.crtc.specs.declared.Video.{Video}
use Rattle.crtc.specs.Line.{line_of}
use Rattle.chip.specs.declared.Crtc.{Crtc}
use Rattle.chip.specs.declared.Chip.{Chip}
use Rattle.chip.specs.declared.Stepped.{Stepped}
use Rattle.chip.specs.declared.line.Moved.{Moved}
use Rattle.chip.specs.State.{with_sound, with_counters, with_raster}
use Rattle.common.specs.Answers.{done, wrong_length, served}
use Rattle.common.specs.Sizes.{ram_bytes}

-- RAM of another length is refused
unfoldable pub step_answer : List ℕ → ℕ
step_answer ram = if (eqb (length ram) ram_bytes) done wrong_length

-- each channel reported as sitting out, and no cycles
unfoldable pub idle_report : Report
idle_report = record { cycles = 0; entries = entry_of SatOut ∷ entry_of SatOut ∷ entry_of SatOut ∷ [] }

-- raster compare, split compare and counters; a raised interrupt waits beside one that waits already
unfoldable pub counters_stepped : Chip → Chip
counters_stepped c =
    with_raster (with_counters c (line_of c.crtc.registers c.video c.crtc.counters).counters)
    (either (line_of c.crtc.registers c.video c.crtc.counters).raster c.interrupts.raster)

unfoldable pub stepped : List ℕ → Chip → Chip
stepped ram c = counters_stepped (with_sound c (sound_after ram c.sound))

-- the parts that a line moves, by themselves
pub record Moves (s : Sound) (k : Crtc) (v : Video) (ram : List ℕ) (a : Accesses) (r : Moved) : Type 0 where
  pub sound : r.sound ≡ sound_after ram s
  pub counters : r.counters ≡ (line_of k.registers v k.counters).counters
  pub raster : r.raster ≡ (line_of k.registers v k.counters).raster
  pub report : r.report ≡ sound_report ram a s

-- in a call that answers this number: with a refusal nothing moves
pub record MovesBy (number : ℕ) (s : Sound) (k : Crtc) (v : Video) (ram : List ℕ) (a : Accesses) (r : Moved) : Type 0 where
  pub sound : r.sound ≡ served number (sound_after ram s) s
  pub counters : r.counters ≡ served number (line_of k.registers v k.counters).counters k.counters
  pub raster : r.raster ≡ served number (line_of k.registers v k.counters).raster false
  pub report : r.report ≡ served number (sound_report ram a s) idle_report

-- a line of the chip in a call that answers this number, whatever the processor does; no line costs over 34 cycles
pub record StepsBy (number : ℕ) (c : Chip) (ram : List ℕ) (a : Accesses) (r : Stepped) : Type 0 where
  pub answer : r.answer ≡ number
  pub chip : r.chip ≡ served number (stepped ram c) c
  pub report : r.report ≡ served number (sound_report ram a c.sound) idle_report
  pub bound : r.report.cycles ≤ 34

-- what the line step promises
abbrev pub Steps : Chip → List ℕ → Accesses → Stepped → Type 0
Steps c ram a r = StepsBy (step_answer ram) c ram a r
