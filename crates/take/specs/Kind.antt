-- The kinds of a record's call by their names.
use Rattle.std.specs.Prelude.{◌≡◌, ℕ, Result, Ok, Err, false}
use Rattle.common.specs.declared.answer.Refusal.{Refusal}
use Rattle.common.specs.declared.answer.Refusal.TheVariants.{BadRecord}
use Rattle.take.specs.Record.{known_kind}
use Rattle.take.specs.declared.kind.Kind.{Kind}
use Rattle.take.specs.declared.kind.Kind.TheVariants.{WriteBc, WriteBd, Write7f, SongWrite, Acknowledge, SongUndo, PictureWrite, PictureUndo, Start, Mute}

-- its number in a record
abbrev pub kind_number : Kind → ℕ
kind_number WriteBc = 1
kind_number WriteBd = 2
kind_number Write7f = 3
kind_number SongWrite = 4
kind_number Acknowledge = 5
kind_number SongUndo = 6
kind_number PictureWrite = 7
kind_number PictureUndo = 8
kind_number Start = 9
kind_number Mute = 10

-- the kind of a number; one that no kind has makes a record bad
abbrev pub KindOf : ℕ → Result Kind Refusal → Type 0
KindOf number (Ok kind) = kind_number kind ≡ number
KindOf number (Err refusal) = (known_kind number ≡ false) × (refusal ≡ BadRecord)
