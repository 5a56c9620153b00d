-- Lines of hexadecimal digits: of an order that exports, and of one that shows the PSG.
use Rattle.std.specs.Prelude.{List, ◌∷◌, ◌++◌, ℕ, ◌/◌, ◌%◌, eqb, get_or}
use Rattle.common.specs.Answers.{done}
use Rattle.common.specs.Choice.{if}
use Rattle.chip.specs.declared.Chip.{Chip}
use Rattle.export.specs.Export.{exported, bytes_of}
use Rattle.text.specs.Text.{numeral, line_end}
use Rattle.text.specs.Paint.{characters}

-- the hexadecimal digit at a position of bytes that are written two digits each
abbrev pub digit_at : List ℕ → ℕ → ℕ
digit_at bytes x = if (eqb (x % 2) 0) (get_or bytes (x / 2) 0 / 16) (get_or bytes (x / 2) 0 % 16)

-- an answer, a space, and so many digits
abbrev pub digit_line : ℕ → List ℕ → ℕ → List ℕ
digit_line answer bytes n = numeral answer ++ 32 ∷ characters (digit_at bytes) n ++ line_end

-- the 477 bytes of an export, in 954 digits
unfoldable pub export_line : Chip → List ℕ
export_line c = digit_line done (bytes_of c exported) 954

-- the 16 PSG registers, in 32 digits
unfoldable pub psg_line : List ℕ → List ℕ
psg_line registers = digit_line done registers 32
