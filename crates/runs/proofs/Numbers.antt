-- Every number that a call answers is below 24.
use native.Mathlib.Omega.{arith}
use mathlib.Core.Bool.{Bool, true, false}
use mathlib.Core.List.{List}
use Prim.Native.Nat.{ℕ, ◌<◌}
use lib.Dec.{eqb, leb, ltb}
use lib.ListN.{length}
use Rattle.common.specs.Choice.{if, both}
use Rattle.editors.specs.declared.Editor.{Editor}
use Rattle.editors.specs.declared.Table.{Table}
use Rattle.lists.specs.declared.Area.{Area}
use Rattle.lists.specs.Area.{proper, standing, area_answer}
use Rattle.lists.specs.Room.{place_at}
use Rattle.lists.specs.Place.{Placed, Places, other_length, not_askable, all_placed, no_gap, placed}
use Rattle.lists.specs.Remove.{taken, remove_answer}
use Rattle.lists.proofs.Some.{some}
use Rattle.crtc.specs.Registers.{has_register}
use Rattle.chip.specs.declared.Chip.{Chip}
use Rattle.chip.specs.Editors.{undo_of, lists_of}
use Rattle.chip.specs.Ports.{data_answer, gate_answer, gate_served}
use Rattle.chip.specs.Interrupts.{acknowledge_answer, source_on, nobody}
use Rattle.chip.specs.Mute.{mute_answer}
use Rattle.chip.specs.Step.{step_answer}
use Rattle.placing.specs.InUse.{in_use_of}
use Rattle.draw.specs.Drawing.{draw_answer}
use Rattle.registers.specs.declared.address.Register.{Register}
use Rattle.registers.specs.declared.address.Register.TheVariants.{Pixel, Sprite, Palette, Video, Ivr, Converter, Channel, Dcsr, Status, Empty}
use Rattle.registers.specs.Address.{register_at}
use Rattle.registers.specs.Owners.{owns}
use Rattle.registers.specs.Registers.{register_answer}
use Rattle.page.specs.Page.{page_answer, read_answer, write_answer}
use Rattle.page.specs.Undo.{undo_answer}
use Rattle.runs.specs.World.{World}
use Rattle.runs.specs.Call.{Call, bc, bd, gate, read, write, undo, ack, line, step, start, area, place, remove, mute, lend, answer_to}

either-small : (t : Bool) {m n : ℕ} → m < 24 → n < 24 → if t m n < 24
either-small true h i = h
either-small false h i = i

register_small : (t : Table) (ed : Editor) (x : Register) → register_answer t ed x < 24
register_small t ed (Pixel i) = either-small (owns t ed (Pixel i)) (omega arith) (omega arith)
register_small t ed (Sprite n p) = either-small (owns t ed (Sprite n p)) (omega arith) (omega arith)
register_small t ed (Palette i) = either-small (owns t ed (Palette i)) (omega arith) (omega arith)
register_small t ed (Video v) = either-small (owns t ed (Video v)) (omega arith) (omega arith)
register_small t ed Ivr = either-small (owns t ed Ivr) (omega arith) (omega arith)
register_small t ed Converter = omega arith
register_small t ed (Channel n r) = either-small (owns t ed (Channel n r)) (omega arith) (omega arith)
register_small t ed Dcsr = omega arith
register_small t ed Status = omega arith
register_small t ed Empty = omega arith

page_small : (c : Chip) (size a rest : ℕ) → rest < 24 → page_answer c size a rest < 24
unfolding page_answer
page_small c size a rest h =
    either-small (eqb size 4096)
    (either-small (both (both (leb 0x4000 a) (ltb a 0x8000)) c.gate.mapped) h (omega arith)) (omega arith)

place-small : {a : Area} {places ram list places' ram' : List ℕ} {r : Placed} → Places a places ram list places' ram' r → r.answer < 24
place-small (other_length long) = omega arith
place-small (not_askable long ask) = omega arith
place-small (all_placed long ask all) = omega arith
place-small (no_gap long ask free none) = omega arith
place-small (placed long ask free low) = omega arith

-- every call
pub answer-small : (w : World) (x : Call) → answer_to w x < 24
unfolding data_answer gate_answer read_answer write_answer undo_answer acknowledge_answer step_answer draw_answer area_answer remove_answer mute_answer
answer-small w (bc b) = omega arith
answer-small w (bd b) = either-small (has_register w.chip.crtc.selected) (omega arith) (omega arith)
answer-small w (gate b) = either-small (gate_served b) (omega arith) (omega arith)
answer-small w (read e a bus) = page_small w.chip (length w.lent.store) a 0 (omega arith)
answer-small w (write e a b) =
    let t = w.chip.editing.table in
    page_small w.chip (length w.lent.store) a (register_answer t e (register_at a)) (register_small t e (register_at a))
answer-small w (undo e) =
    either-small (eqb (length w.lent.store) 4096)
    (either-small (eqb (undo_of w.chip.editing e).count 0) (omega arith) (omega arith)) (omega arith)
answer-small w ack = either-small (eqb (source_on w.chip) nobody) (omega arith) (omega arith)
answer-small w (line a n) =
    either-small (both (eqb (length w.lent.ram) 65536) (both (eqb (length w.lent.store) 4096) (eqb n 640)))
    (either-small (eqb w.chip.gate.mode 3) (omega arith) (omega arith)) (omega arith)
answer-small w (step a) = either-small (eqb (length w.lent.ram) 65536) (omega arith) (omega arith)
answer-small w (start o) = omega arith
answer-small w (area from upto) =
    let a = lists_of w.chip in
    either-small (standing a) (omega arith) (either-small (proper from upto) (omega arith) (omega arith))
answer-small w (place list) = place-small (some (lists_of w.chip) w.lent.slots w.lent.ram list).holds
answer-small w (remove handle) =
    let a = lists_of w.chip in
    either-small (standing a)
    (either-small (taken a handle)
    (either-small (in_use_of w.chip.sound (place_at w.lent.slots handle)) (omega arith) (omega arith)) (omega arith)) (omega arith)
answer-small w (mute n on) = either-small (ltb n 3) (omega arith) (omega arith)
answer-small w (lend l) = omega arith
