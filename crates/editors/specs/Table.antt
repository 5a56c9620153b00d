-- 02, L9: the two editors, and the table that names which of them may write what.
use Rattle.std.specs.Prelude.{Bool, true, false, not, ℕ, ◌%◌, eqb}
use Rattle.common.specs.Choice.{if, either}
use Rattle.editors.specs.declared.Editor.{Editor}
use Rattle.editors.specs.declared.Editor.TheVariants.{Song, Picture}
use Rattle.editors.specs.declared.Owners.{Owners}
use Rattle.editors.specs.declared.Table.{Table}

-- the one beside this one
abbrev pub other : Editor → Editor
other Song = Picture
other Picture = Song

abbrev pub same : Editor → Editor → Bool
same Song Song = true
same Song Picture = false
same Picture Song = false
same Picture Picture = true

-- of two things, the song editor's first, this editor's
abbrev pub pick : {A : Type 0} → Editor → A → A → A
pick Song a b = a
pick Picture a b = b

-- the editor of a number: 0 the song editor, any other the picture editor
abbrev pub editor_by : ℕ → Editor
editor_by n = if (eqb n 0) Song Picture

-- after reset no table holds
abbrev pub no_table : Table
no_table = record { held = false; channels = 0; sprites = 0; palette = 0 }

-- the table that a start gives; there are 3 channels, 16 sprites and 32 palette entries
abbrev pub holding : Owners → Table
holding o = record { held = true; channels = o.channels % 8; sprites = o.sprites; palette = o.palette }

-- an owner's bit names this editor: it is set for the picture editor
abbrev pub names : Editor → Bool → Bool
names Song b = not b
names Picture b = b

-- a thing with this owner's bit is the editor's; while no table holds, everything is each one's
abbrev pub mine : Table → Editor → Bool → Bool
mine t e b = either (not t.held) (names e b)
