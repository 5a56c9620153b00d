-- 02, L5 and L9: undo takes back the newest write that the editor's record has left.
use Rattle.std.specs.Prelude.{◌≡◌, List, ℕ, eqb, length}
use Rattle.common.specs.Answers.{done, wrong_length, nothing_to_undo, served}
use Rattle.common.specs.Choice.{if}
use Rattle.common.specs.Sizes.{store_bytes}
use Rattle.ring.specs.Ring.{popped, head, tail}
use Rattle.editors.specs.declared.Editor.{Editor}
use Rattle.chip.specs.declared.Chip.{Chip}
use Rattle.chip.specs.declared.Answered.{Answered}
use Rattle.chip.specs.Promises.{Answers}
use Rattle.chip.specs.State.{with_editing}
use Rattle.chip.specs.Editors.{undo_of, editing_with}
use Rattle.registers.specs.Registers.{register_written, store_put}
use Rattle.page.specs.UndoRecord.{entry_register_of, entry_contents, record_in}

-- a store of another length, then an empty record; whether the page is mapped or the chip locked doesn't matter
unfoldable pub undo_answer : Chip → Editor → ℕ → ℕ
undo_answer c e size = if (eqb size store_bytes) (if (eqb (undo_of c.editing e).count 0) nothing_to_undo done) wrong_length

-- the editor's newest entry
abbrev pub newest : Chip → Editor → List ℕ → ℕ
newest c e places = head (record_in c e places)

-- the contents of an entry put back into its register, and the editor's record without its newest
unfoldable pub undone : Chip → Editor → ℕ → Chip
undone c e entry =
    with_editing (register_written c e (entry_register_of entry) (entry_contents entry))
    (editing_with c.editing e (popped (undo_of c.editing e)))

-- a pixel's whole byte goes back into the store
abbrev pub store_undone : List ℕ → ℕ → List ℕ
store_undone store entry = store_put store (entry_register_of entry) (entry_contents entry)

-- what undo promises the editor that makes it; the lent places stay
pub record Undoes (c : Chip) (e : Editor) (store places store' : List ℕ) (r : Answered) : Type 0 where
  pub call : Answers (undo_answer c e (length store)) (undone c e (newest c e places)) c r
  pub store-after : store' ≡ served (undo_answer c e (length store)) (store_undone store (newest c e places)) store
  pub record_after_lem :
      record_in r.chip e places ≡ served (undo_answer c e (length store)) (tail (record_in c e places)) (record_in c e places)
