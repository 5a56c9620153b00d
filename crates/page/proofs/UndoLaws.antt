-- 02, L5: undo puts contents back and touches nothing else; a kept write that is undone at once leaves chip and store as they were.
use mathlib.Core.Path.{◌≡◌, refl, ap, sym, ◌∙◌}
use mathlib.Core.Bool.{Bool, true, false}
use mathlib.Core.List.{List}
use Prim.Native.Nat.{ℕ, ◌+◌, ◌*◌, ◌/◌, ◌%◌, ◌<◌}
use native.Mathlib.Omega.{arith}
use borrow.Author.Tests.{eqb-true, eqb-false}
use lib.Dec.{eqb, leb, ltb}
use Rattle.common.specs.Answers.{done}
use Rattle.common.specs.Choice.{if, both}
use Rattle.editors.specs.declared.Editor.{Editor}
use Rattle.ring.specs.declared.Undo.{Undo}
use Rattle.chip.specs.declared.Chip.{Chip}
use Rattle.chip.specs.declared.Editing.{Editing}
use Rattle.chip.specs.State.{with_editing}
use Rattle.chip.specs.Editors.{undo_of, editing_with}
use Rattle.registers.specs.declared.address.Register.{Register}
use Rattle.registers.specs.declared.address.Register.TheVariants.{Pixel, Sprite, Palette, Video, Ivr, Converter, Channel, Dcsr, Status, Empty}
use Rattle.registers.specs.Address.{register_at}
use Rattle.registers.specs.Registers.{register_answer, register_written, store_written}
use Rattle.contents.specs.Contents.{contents, Holds}
use Rattle.contents.specs.Widths.{Widths}
use Rattle.contents.proofs.Back.{chip-back, store-back}
use Rattle.page.specs.UndoRecord.{is_kept, entry_with, entry_register_of, entry_contents, entry_at, undo_after}
use Rattle.page.specs.Page.{page_answer, write_answer, page_written}
use Rattle.page.specs.Undo.{undo_answer, undone, store_undone}
use Rattle.page.proofs.HoldsAt.{holds_at}

-- what is kept for the editors is no register
pub unrecorded : (c : Chip) (x : Editing) (store : List ℕ) (r : Register) → contents (with_editing c x) store r ≡ contents c store r
unrecorded c x store (Pixel i) = refl
unrecorded c x store (Sprite n p) = refl
unrecorded c x store (Palette i) = refl
unrecorded c x store (Video v) = refl
unrecorded c x store Ivr = refl
unrecorded c x store Converter = refl
unrecorded c x store (Channel n q) = refl
unrecorded c x store Dcsr = refl
unrecorded c x store Status = refl
unrecorded c x store Empty = refl

-- a write to one leaves it
pub editing_stays : (c : Chip) (ed : Editor) (r : Register) (b : ℕ) → (register_written c ed r b).editing ≡ c.editing
editing_stays c ed (Pixel i) b = refl
editing_stays c ed (Sprite n p) b = refl
editing_stays c ed (Palette i) b = refl
editing_stays c ed (Video v) b = refl
editing_stays c ed Ivr b = refl
editing_stays c ed Converter b = refl
editing_stays c ed (Channel n q) b = refl
editing_stays c ed Dcsr b = refl
editing_stays c ed Status b = refl
editing_stays c ed Empty b = refl

-- and asks it for its table alone
pub beside : (c : Chip) (ed : Editor) (u : Undo) (r : Register) (b : ℕ) →
    register_written (with_editing c (editing_with c.editing ed u)) ed r b
    ≡ with_editing (register_written c ed r b) (editing_with c.editing ed u)
beside c ed u (Pixel i) b = refl
beside c ed u (Sprite n p) b = refl
beside c ed u (Palette i) b = refl
beside c ed u (Video v) b = refl
beside c ed u Ivr b = refl
beside c ed u Converter b = refl
beside c ed u (Channel n q) b = refl
beside c ed u Dcsr b = refl
beside c ed u Status b = refl
beside c ed u Empty b = refl

-- what a write with an address and contents of a byte records
pub entry_register : (a v : ℕ) → a < 65536 → entry_register_of (entry_with a v) ≡ register_at a
entry_register a v small = ap register_at (let e : (a * 256 + v % 256) / 256 % 65536 ≡ a = omega arith in e)

pub entry-contents : (a v : ℕ) → v < 256 → entry_contents (entry_with a v) ≡ v
entry-contents a v byte = omega arith

-- a served undo had a store of the right length, and something to take back
pub undo-served : (c : Chip) (ed : Editor) (size : ℕ) → undo_answer c ed size ≡ done → (size ≡ 4096) × ((undo_of c.editing ed).count ≡ 0 → ⊥)
unfolding undo_answer
undo-served c ed size h = go (eqb size 4096) refl (eqb (undo_of c.editing ed).count 0) refl h
  where
    go :
        (s : Bool) → eqb size 4096 ≡ s → (t : Bool) → eqb (undo_of c.editing ed).count 0 ≡ t → ◌≡◌ {A = ℕ} (if s (if t 10 0) 1) 0 →
        (size ≡ 4096) × ((undo_of c.editing ed).count ≡ 0 → ⊥)
    go true e true f k = absurd (omega arith)
    go true e false f k = (eqb-true _ _ e, eqb-false _ _ f)
    go false e t f k = absurd (omega arith)

-- a served write was to a register that the editor can write
pub served_register : (c : Chip) (ed : Editor) (size a : ℕ) → write_answer c ed size a ≡ done →
    register_answer c.editing.table ed (register_at a) ≡ done
unfolding write_answer page_answer
served_register c ed size a h = go (eqb size 4096) (both (both (leb 0x4000 a) (ltb a 0x8000)) c.gate.mapped) h
  where
    rest : ℕ
    rest = register_answer c.editing.table ed (register_at a)

    go : (s p : Bool) → if s (if p rest 2) 1 ≡ 0 → rest ≡ 0
    go true true e = e
    go true false e = absurd (omega arith)
    go false p e = absurd (omega arith)

-- written, then undone at once by the same editor: bit for bit the same chip but for that record, and the same store
module _ (c : Chip) (ed : Editor) (store : List ℕ) (a b : ℕ) (small : a < 65536) (byte : b < 256) (w : Widths c)
    (v : contents c store (register_at a) < 256) (there : register_answer c.editing.table ed (register_at a) ≡ done)
    (kept : is_kept (register_at a) ≡ true) where
  pub chip-again :
      with_editing (undone (page_written c ed (register_at a) b) ed (entry_at c store a)) c.editing ≡ c
  unfolding undone page_written
  chip-again =
      rw (
        entry_register a (contents c store (register_at a)) small,
        entry-contents a (contents c store (register_at a)) v,
      )
      (again (register_at a) (holds_at c.editing.table ed a there kept))
    where
      again : (r : Register) → Holds r →
          with_editing
          (register_written (with_editing (register_written c ed r b) (editing_with c.editing ed (undo_after (undo_of c.editing ed) r))) ed r
          (contents c store r))
          c.editing
          ≡ c
      again r holds =
          let d = register_written c ed r b in
          let u = undo_after (undo_of c.editing ed) r in
          let s : with_editing d (editing_with c.editing ed u) ≡ with_editing d (editing_with d.editing ed u) =
          ap (λ (x : Editing). with_editing d (editing_with x ed u)) (sym (editing_stays c ed r b)) in
          ap (λ (x : Chip). with_editing (register_written x ed r (contents c store r)) c.editing) s
          ∙ ap (λ (x : Chip). with_editing x c.editing) (beside d ed u r (contents c store r))
          ∙ ap (λ (x : Chip). with_editing x c.editing) (chip-back c ed store b byte w r holds)

  pub store-again : store_undone (store_written store (register_at a) b) (entry_at c store a) ≡ store
  store-again =
      rw (
        entry_register a (contents c store (register_at a)) small,
        entry-contents a (contents c store (register_at a)) v,
      )
      (store-back c store b (register_at a))
