-- 02, L5 and L9: what undo promises, in any run of calls from reset: the write that it takes back is gone from reads, drawing and the export.
use Rattle.std.specs.Prelude.{◌≡◌, List, [], ◌∷◌, ℕ, length}
use Rattle.common.specs.Answers.{done}
use Rattle.editors.specs.declared.Editor.{Editor}
use Rattle.chip.specs.declared.Chip.{Chip}
use Rattle.chip.specs.declared.Answered.{Answered}
use Rattle.contents.specs.Widths.{Widths}
use Rattle.page.specs.Undo.{Undoes}
use Rattle.export.specs.Export.{exported, bytes_of}
use Rattle.draw.specs.Drawing.{entry_at}
use Rattle.runs.specs.World.{World, edited}
use Rattle.runs.specs.Run.{Made}
use Rattle.runs.specs.Trace.{lent_on, Snapshot, Trace, Restored, TakesBack}

-- a chip that draws the current line as the world v does, and exports the same bytes
pub record SameShown (v : World) (c : Chip) (store : List ℕ) : Type 0 where
  pub drawn : (ram : List ℕ) (x : ℕ) → entry_at v.chip ram v.lent.store x ≡ entry_at c ram store x
  pub bytes : bytes_of v.chip exported ≡ bytes_of c exported

-- the write of a snapshot is taken back on the world w. So does every chip within the widths, with a store of that length, whose
-- registers have the contents before that write and else those on w, and whose gate array and 6845 are those of w
pub record BackAgain (s : Snapshot) (w v : World) : Type 0 where
  pub back : TakesBack s w v
  pub shown :
      (c : Chip) (store : List ℕ) → Widths c → length store ≡ length w.lent.store → Restored s w c store →
      c.gate ≡ w.chip.gate → c.crtc ≡ w.chip.crtc → SameShown v c store

-- an editor's undo on the chip c with this store and these places: its equations; where these are what a trace from reset leaves, a
-- served undo takes back the newest write of that editor's left, and with none left it is refused
pub record UndoTold (c : Chip) (e : Editor) (store places store' : List ℕ) (r : Answered) : Type 0 where
  pub undoes : Undoes c e store places store' r
  pub takes_back :
      (start w : World) (log : List Made) (s : Snapshot) (ss : List Snapshot) → Trace e start log w (s ∷ ss) → w.chip ≡ c →
      lent_on w e ≡ record { store = store; places = places } → r.answer ≡ done → BackAgain s w (edited w e r.chip store' places)
  pub none_left :
      (start w : World) (log : List Made) → Trace e start log w [] → w.chip ≡ c → lent_on w e ≡ record { store = store; places = places } →
      r.answer ≡ done → ⊥
