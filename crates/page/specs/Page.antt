-- 01, "The register page", with 02, L9: page reads and writes, by the editor that makes them.
use Rattle.std.specs.Prelude.{◌≡◌, List, ◌∷◌, ℕ, ◌%◌, eqb, leb, ltb, length, set, take}
use Rattle.common.specs.Answers.{done, wrong_length, not_mapped, served}
use Rattle.common.specs.Choice.{if, both}
use Rattle.common.specs.Sizes.{store_bytes}
use Rattle.editors.specs.declared.Editor.{Editor}
use Rattle.chip.specs.declared.Chip.{Chip}
use Rattle.chip.specs.declared.Answered.{Answered}
use Rattle.chip.specs.Promises.{Answers}
use Rattle.chip.specs.State.{with_editing}
use Rattle.chip.specs.Editors.{undo_of, editing_with}
use Rattle.registers.specs.declared.address.Register.{Register}
use Rattle.registers.specs.Address.{register_at}
use Rattle.registers.specs.Registers.{register_answer, register_written, store_written, register_read}
use Rattle.page.specs.declared.ByteRead.{ByteRead}
use Rattle.page.specs.UndoRecord.{is_kept, entry_at, record_in, undo_after}

-- the pixel store has 4,096 bytes; the page is 4000h to 7FFFh, while mapped. The rest is as given
unfoldable pub page_answer : Chip → ℕ → ℕ → ℕ → ℕ
page_answer c size a rest =
    if (eqb size store_bytes) (if (both (both (leb 0x4000 a) (ltb a 0x8000)) c.gate.mapped) rest not_mapped) wrong_length

unfoldable pub read_answer : Chip → ℕ → ℕ → ℕ
read_answer c size a = page_answer c size a done

-- a write is refused for its register too: not this editor's, a converter, or nothing there
unfoldable pub write_answer : Chip → Editor → ℕ → ℕ → ℕ
write_answer c e size a = page_answer c size a (register_answer c.editing.table e (register_at a))

-- the chip after an editor's write that is served: the register has the byte, and that editor's record the write
unfoldable pub page_written : Chip → Editor → Register → ℕ → Chip
page_written c e x b =
    with_editing (register_written c e x b) (editing_with c.editing e (undo_after (undo_of c.editing e) x))

-- the lent places after it: the entry stands where the record says
unfoldable pub places_after : Chip → Editor → List ℕ → List ℕ → ℕ → List ℕ
places_after c e store places a =
    if (is_kept (register_at a)) (set places ((undo_of c.editing e).next % 256) (entry_at c store a)) places

-- and the record: one entry more, of which the last 256 are kept
unfoldable pub record_after : Chip → Editor → List ℕ → List ℕ → ℕ → List ℕ
record_after c e store places a =
    if (is_kept (register_at a)) (take 256 (entry_at c store a ∷ record_in c e places)) (record_in c e places)

-- what a page write promises the editor that makes it: answer and chip, the store, its lent places, and its record as a list
pub record Writes (c : Chip) (e : Editor) (store places : List ℕ) (a b : ℕ) (store' places' : List ℕ) (r : Answered) : Type 0 where
  pub call : Answers (write_answer c e (length store) a) (page_written c e (register_at a) b) c r
  pub store-after : store' ≡ served (write_answer c e (length store) a) (store_written store (register_at a) b) store
  pub places-after : places' ≡ served (write_answer c e (length store) a) (places_after c e store places a) places
  pub record_after_lem :
      record_in r.chip e places'
      ≡ served (write_answer c e (length store) a) (record_after c e store places a) (record_in c e places)

-- what a page read promises, which changes nothing; no read is refused for its owner
pub record Reads (c : Chip) (e : Editor) (store : List ℕ) (a bus : ℕ) (r : ByteRead) : Type 0 where
  pub answer : r.answer ≡ read_answer c (length store) a
  pub byte : r.byte ≡ served (read_answer c (length store) a) (register_read c e store (register_at a) bus) 0
