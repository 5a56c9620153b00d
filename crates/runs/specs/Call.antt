-- The calls, with their arguments: what each replies and leaves, in the words of the calls' promises. A law says that every call does so.
use Rattle.std.specs.Prelude.{ℕ, ◌<◌, ◌^◌, Bool, List, length}
use Rattle.common.specs.Answers.{done, served}
use Rattle.editors.specs.declared.Editor.{Editor}
use Rattle.editors.specs.declared.Owners.{Owners}
use Rattle.sound.specs.declared.Accesses.{Accesses}
use Rattle.sound.specs.declared.Report.{Report}
use Rattle.sound.specs.Line.{sound_report}
use Rattle.chip.specs.declared.Chip.{Chip}
use Rattle.lists.specs.Area.{area_of, area_answer}
use Rattle.lists.specs.Remove.{without_list}
use Rattle.lists.proofs.Some.{some}
use Rattle.chip.specs.Editors.{started, lists_of, with_lists}
use Rattle.chip.specs.Ports.{selected, data_answer, data_written, gate_answer, gate_written}
use Rattle.chip.specs.Interrupts.{acknowledge_answer, acknowledged, vector_on}
use Rattle.chip.specs.Mute.{mute_answer, mute_set}
use Rattle.chip.specs.Step.{step_answer, stepped, idle_report}
use Rattle.placing.specs.Contract.{removal_answer}
use Rattle.line.specs.Contract.{line_answer}
use Rattle.registers.specs.Address.{register_at}
use Rattle.registers.specs.Registers.{register_read, store_written}
use Rattle.contents.specs.Widths.{Bytes}
use Rattle.page.specs.Page.{read_answer, write_answer, page_written, places_after}
use Rattle.page.specs.Undo.{undo_answer, newest, undone, store_undone}
use Rattle.runs.specs.World.{World, places_of, with_chip, edited, roomed, Loan, lent_by}

-- the byte of a port write; the editor, the address and the bus byte of a page read; the editor, the address and the byte of a page
-- write; the editor of an undo; what the processor does at the 8255 on a line, and the length of the buffer that the line is drawn into;
-- the owners that a start gives; an area's bounds; a list's bytes; a list's handle; a channel, and whether it is muted. The other buffers
-- are those of the world. `step` is the core's line step, which draws nothing: no host calls it, but a replay is made of such, so that a
-- chip which it hands out is reached too. `lend` is no call of the chip: the host lends another buffer from here on
pub data Call : Type 0 where
  bc : ℕ → Call
  bd : ℕ → Call
  gate : ℕ → Call
  read : Editor → ℕ → ℕ → Call
  write : Editor → ℕ → ℕ → Call
  undo : Editor → Call
  ack : Call
  line : Accesses → ℕ → Call
  step : Accesses → Call
  start : Owners → Call
  area : ℕ → ℕ → Call
  place : List ℕ → Call
  remove : ℕ → Call
  mute : ℕ → Bool → Call
  lend : Loan → Call

-- what a caller is told: the answer number, and beside it nothing, a byte, a vector, a line's report, or a list's address and handle
pub data Told : Type 0 where
  nothing : Told
  byte : ℕ → Told
  vector : ℕ → Told
  report : Report → Told
  placed : ℕ → ℕ → Told

pub record Reply : Type 0 where
  pub answer : ℕ
  pub told : Told

abbrev pub number : ℕ → Reply
number n = record { answer = n; told = nothing }

-- what a call comes to: the answer, what it tells, and the world after it where it is served
pub record Outcome : Type 0 where
  pub answer : ℕ
  pub told : Told
  pub next : World

-- a call that changes the chip alone and tells nothing but its answer
abbrev pub chip_only : World → ℕ → Chip → Outcome
chip_only w answer c = record { answer = answer; told = nothing; next = with_chip w c }

-- a call that steps a line, where it has this answer, and tells the report
abbrev pub line_by : World → ℕ → Accesses → Outcome
line_by w number a =
    record {
      answer = number;
      told = report (served number (sound_report w.lent.ram a w.chip.sound) idle_report);
      next = with_chip w (stepped w.lent.ram w.chip);
    }

-- placing has one outcome by its promise, which two laws of `lists` say: there is one (`some`), and there are no two (`only`)
abbrev pub outcome : World → Call → Outcome
outcome w (bc b) = chip_only w done (selected w.chip b)
outcome w (bd b) = chip_only w (data_answer w.chip) (data_written w.chip b)
outcome w (gate b) = chip_only w (gate_answer b) (gate_written w.chip b)
outcome w (read e a bus) =
    let number = read_answer w.chip (length w.lent.store) a in
    record { answer = number; told = byte (served number (register_read w.chip e w.lent.store (register_at a) bus) 0); next = w }
outcome w (write e a b) =
    record {
      answer = write_answer w.chip e (length w.lent.store) a;
      told = nothing;
      next =
          edited w e (page_written w.chip e (register_at a) b) (store_written w.lent.store (register_at a) b)
          (places_after w.chip e w.lent.store (places_of w.lent e) a);
    }
outcome w (undo e) =
    let entry = newest w.chip e (places_of w.lent e) in
    record {
      answer = undo_answer w.chip e (length w.lent.store);
      told = nothing;
      next = edited w e (undone w.chip e entry) (store_undone w.lent.store entry) (places_of w.lent e);
    }
outcome w ack =
    let number = acknowledge_answer w.chip in
    record { answer = number; told = vector (served number (vector_on w.chip) 0); next = with_chip w (acknowledged w.chip) }
outcome w (line a n) = line_by w (line_answer w.chip w.lent.ram w.lent.store n) a
outcome w (step a) = line_by w (step_answer w.lent.ram) a
outcome w (start o) = chip_only w done (started w.chip o)
outcome w (area from upto) = chip_only w (area_answer (lists_of w.chip) from upto) (with_lists w.chip (area_of from upto))
outcome w (place list) =
    let p = some (lists_of w.chip) w.lent.slots w.lent.ram list in
    record {
      answer = p.result.answer;
      told = placed p.result.address p.result.handle;
      next = roomed w (with_lists w.chip p.result.area) p.ram-after p.places-after;
    }
outcome w (remove handle) =
    chip_only w (removal_answer w.chip w.lent.slots handle) (with_lists w.chip (without_list (lists_of w.chip) handle))
outcome w (mute n on) = chip_only w (mute_answer n) (mute_set w.chip n on)
outcome w (lend l) = record { answer = done; told = nothing; next = record { chip = w.chip; lent = lent_by l w.lent } }

abbrev pub answer_to : World → Call → ℕ
answer_to w c = (outcome w c).answer

abbrev pub served_world : World → Call → World
served_world w c = (outcome w c).next

-- the reply, and the world after it: a refusal leaves all as it was
abbrev pub reply_to : World → Call → Reply
reply_to w c = record { answer = answer_to w c; told = (outcome w c).told }

abbrev pub world_after : World → Call → World
world_after w c = served (answer_to w c) (served_world w c) w

-- the arguments as the calls' types bound them: bytes below 256, addresses below 65,536, bounds and handles of 32 bits
abbrev pub Typed : Call → Type 0
Typed (bc b) = b < 256
Typed (bd b) = b < 256
Typed (gate b) = b < 256
Typed (read e a bus) = (a < 65536) × (bus < 256)
Typed (write e a b) = (a < 65536) × (b < 256)
Typed (undo e) = Unit {0}
Typed ack = Unit {0}
Typed (line a n) = Unit {0}
Typed (step a) = Unit {0}
Typed (start o) = Unit {0}
Typed (area from upto) = (from < 2 ^ 32) × (upto < 2 ^ 32)
Typed (place list) = Bytes list
Typed (remove handle) = handle < 2 ^ 32
Typed (mute n on) = n < 65536
Typed (lend l) = Unit {0}
