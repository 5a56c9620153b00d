-- 02, L5 and L9: an editor's record of page writes. An entry is a write's address with the contents that its register had before it.
use Rattle.std.specs.Prelude.{Bool, true, false, List, ℕ, ◌+◌, ◌*◌, ◌/◌, ◌%◌}
use Rattle.common.specs.Choice.{if}
use Rattle.editors.specs.declared.Editor.{Editor}
use Rattle.ring.specs.declared.Undo.{Undo}
use Rattle.ring.specs.Ring.{record_of, pushed}
use Rattle.chip.specs.declared.Chip.{Chip}
use Rattle.chip.specs.Editors.{undo_of}
use Rattle.registers.specs.declared.address.Register.{Register}
use Rattle.registers.specs.declared.address.Register.TheVariants.{Pixel, Sprite, Palette, Video, Ivr, Converter, Channel, Dcsr, Status, Empty}
use Rattle.registers.specs.Address.{register_at}
use Rattle.contents.specs.Contents.{contents}

-- a write is kept unless it goes to DCSR
abbrev pub is_kept : Register → Bool
is_kept (Pixel i) = true
is_kept (Sprite n p) = true
is_kept (Palette i) = true
is_kept (Video v) = true
is_kept Ivr = true
is_kept Converter = true
is_kept (Channel n r) = true
is_kept Dcsr = false
is_kept Status = true
is_kept Empty = true

-- an entry, and what it is of
abbrev pub entry_with : ℕ → ℕ → ℕ
entry_with a v = a * 256 + v % 256

abbrev pub entry_address : ℕ → ℕ
entry_address x = x / 256 % 65536

abbrev pub entry_register_of : ℕ → Register
entry_register_of x = register_at (entry_address x)

abbrev pub entry_contents : ℕ → ℕ
entry_contents x = x % 256

-- the entry of a write to an address
abbrev pub entry_at : Chip → List ℕ → ℕ → ℕ
entry_at c store a = entry_with a (contents c store (register_at a))

-- the record that a chip has of an editor in these places, newest entry first
abbrev pub record_in : Chip → Editor → List ℕ → List ℕ
record_in c e places = record_of (undo_of c.editing e) places

-- the state of the record after a write that is served
abbrev pub undo_after : Undo → Register → Undo
undo_after u x = if (is_kept x) (pushed u) u
