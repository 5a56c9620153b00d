-- Serves only the code's own parts, in the contracts of private functions. No public promise cites it.
use Rattle.std.specs.Prelude.{◌≡◌, List, ℕ, ◌%◌, eqb, length}
use Rattle.common.specs.Answers.{done, wrong_length, nothing_to_undo, served}
use Rattle.common.specs.Choice.{if}
use Rattle.common.specs.Sizes.{store_bytes}
use Rattle.ring.specs.declared.Undo.{Undo}
use Rattle.ring.specs.Ring.{popped}
use Rattle.editors.specs.declared.Editor.{Editor}
use Rattle.chip.specs.declared.Chip.{Chip}
use Rattle.chip.specs.declared.Answered.{Answered}
use Rattle.chip.specs.State.{with_editing}
use Rattle.chip.specs.Editors.{undo_of, editing_with}
use Rattle.registers.specs.declared.address.Register.{Register}
use Rattle.registers.specs.declared.address.Register.TheVariants.{Empty}
use Rattle.registers.specs.Address.{register_at}
use Rattle.registers.specs.Registers.{register_written, store_put}
use Rattle.page.specs.declared.Edit.{Edit}
use Rattle.page.specs.declared.Edit.TheVariants.{Write, Back}
use Rattle.page.specs.declared.Change.{Change}
use Rattle.page.specs.UndoRecord.{is_kept, entry_at, entry_register_of, entry_contents, undo_after}
use Rattle.page.specs.Page.{write_answer}

-- an entry kept at a place, or not
pub record KeepsEntry (u : Undo) (x : Register) (place entry place' : ℕ) (r : Undo) : Type 0 where
  pub undo : r ≡ undo_after u x
  pub place_after : place' ≡ if (is_kept x) entry place

-- a refused edit
abbrev pub refusal : Undo → ℕ → Change
refusal u n = record { answer = n; register = Empty; byte = 0; pixel = 0; undo = u }

-- a served write, and a served undo
abbrev pub write_change : Undo → ℕ → ℕ → Change
write_change u a b = record { answer = done; register = register_at a; byte = b; pixel = b % 16; undo = undo_after u (register_at a) }

abbrev pub undo_change : Undo → ℕ → Change
undo_change u e =
    record { answer = done; register = entry_register_of e; byte = entry_contents e; pixel = entry_contents e; undo = popped u }

-- undo, by the size of the store and whether an entry is left
abbrev pub back_change : Undo → ℕ → ℕ → Change
back_change u size e =
    if (eqb size store_bytes) (if (eqb u.count 0) (refusal u nothing_to_undo) (undo_change u e)) (refusal u wrong_length)

-- what an editor's edit changes, with what stands at the record's place
abbrev pub change_of : Chip → Editor → List ℕ → ℕ → Edit → Change
change_of c ed store place (Write a b) =
    served (write_answer c ed (length store) a) (write_change (undo_of c.editing ed) a b)
    (refusal (undo_of c.editing ed) (write_answer c ed (length store) a))
change_of c ed store place Back = back_change (undo_of c.editing ed) (length store) place

-- and what stands there after it
abbrev pub place_after_edit : Chip → Editor → List ℕ → ℕ → Edit → ℕ
place_after_edit c ed store place (Write a b) =
    served (write_answer c ed (length store) a) (if (is_kept (register_at a)) (entry_at c store a) place) place
place_after_edit c ed store place Back = place

pub record Changes (c : Chip) (ed : Editor) (store : List ℕ) (place : ℕ) (e : Edit) (place' : ℕ) (r : Change) : Type 0 where
  pub change : r ≡ change_of c ed store place e
  pub place_after : place' ≡ place_after_edit c ed store place e

-- the chip with a change made: the register has the byte, and the editor's record its new state
abbrev pub changed_by : Chip → Editor → Change → Chip
changed_by c ed h = with_editing (register_written c ed h.register h.byte) (editing_with c.editing ed h.undo)

-- an edit made
pub record Edits (c : Chip) (ed : Editor) (store : List ℕ) (place : ℕ) (e : Edit) (store' : List ℕ) (place' : ℕ) (r : Answered) : Type 0 where
  pub answer : r.answer ≡ (change_of c ed store place e).answer
  pub chip : r.chip ≡ changed_by c ed (change_of c ed store place e)
  pub store-after : store' ≡ store_put store (change_of c ed store place e).register (change_of c ed store place e).pixel
  pub place_after : place' ≡ place_after_edit c ed store place e
