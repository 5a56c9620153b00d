-- One editor's record changed: that editor's, the other's, and to what it was; and records with nothing in them.
use mathlib.Core.Path.{◌≡◌, refl}
use mathlib.Core.List.{List, []}
use Prim.Native.Nat.{ℕ}
use Rattle.editors.specs.declared.Editor.{Editor}
use Rattle.editors.specs.declared.Editor.TheVariants.{Song, Picture}
use Rattle.editors.specs.declared.Owners.{Owners}
use Rattle.editors.specs.Table.{other}
use Rattle.ring.specs.declared.Undo.{Undo}
use Rattle.ring.specs.Ring.{entries, record_of}
use Rattle.chip.specs.declared.Editing.{Editing}
use Rattle.chip.specs.declared.Chip.{Chip}
use Rattle.chip.specs.Reset.{reset_chip}
use Rattle.chip.specs.Editors.{undo_of, editing_with, no_entries, started}

pub own_record : (e : Editor) (x : Editing) (u : Undo) → undo_of (editing_with x e u) e ≡ u
own_record Song x u = refl
own_record Picture x u = refl

pub other_record : (e : Editor) (x : Editing) (u : Undo) → undo_of (editing_with x (other e) u) e ≡ undo_of x e
other_record Song x u = refl
other_record Picture x u = refl

pub same_record : (e : Editor) (x : Editing) → editing_with x e (undo_of x e) ≡ x
same_record Song x = refl
same_record Picture x = refl

-- a start and a reset leave nothing to undo
pub started_none : (e : Editor) (c : Chip) (o : Owners) → undo_of (started c o).editing e ≡ no_entries
unfolding started
started_none Song c o = refl
started_none Picture c o = refl

pub reset_none : (e : Editor) → undo_of reset_chip.editing e ≡ no_entries
unfolding reset_chip
reset_none Song = refl
reset_none Picture = refl

pub none_kept : (e : Editor) (x : Editing) (places : List ℕ) → undo_of x e ≡ no_entries → record_of (undo_of x e) places ≡ []
unfolding record_of entries
none_kept e x places i = rw i
