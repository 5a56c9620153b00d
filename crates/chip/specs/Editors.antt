-- 02, L9 and L12: what is kept for the two editors, the start, and the area for placed lists.
use Rattle.editors.specs.declared.Editor.{Editor}
use Rattle.editors.specs.declared.Owners.{Owners}
use Rattle.editors.specs.Table.{pick, holding}
use Rattle.ring.specs.declared.Undo.{Undo}
use Rattle.lists.specs.declared.Area.{Area}
use Rattle.chip.specs.declared.Editing.{Editing}
use Rattle.chip.specs.declared.Chip.{Chip}
use Rattle.chip.specs.State.{with_editing}

-- each editor has a record of its own
abbrev pub undo_of : Editing → Editor → Undo
undo_of x e = pick e x.song x.picture

-- with this editor's record changed, the other's, the table and the lists as they were
abbrev pub editing_with : Editing → Editor → Undo → Editing
editing_with x e u = record x { song = pick e u x.song; picture = pick e x.picture u }

-- a record with nothing to undo
abbrev pub no_entries : Undo
no_entries = record { next = 0; count = 0 }

-- the chip after a start: this table holds, and both records are empty; the lists stay
unfoldable pub started : Chip → Owners → Chip
started c o = with_editing c (record c.editing { table = holding o; song = no_entries; picture = no_entries })

-- the area of a chip, and the chip with another
abbrev pub lists_of : Chip → Area
lists_of c = c.editing.lists

abbrev pub with_lists : Chip → Area → Chip
with_lists c a = with_editing c (record c.editing { lists = a })
