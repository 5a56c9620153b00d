-- The line that a program prints of a list, without its end.
use Rattle.std.specs.Prelude.{List, ◌++◌, ℕ, Result, Ok, Err, codes}
use Rattle.std.specs.Fmt.{decimal}
use Rattle.length_line.specs.declared.Length.{Length}

-- its lines and cycles, or the number with which it is refused
abbrev pub line_of : Result Length ℕ → List ℕ
line_of (Ok length) = codes "lines " ++ decimal length.lines ++ codes " cycles " ++ decimal length.cycles
line_of (Err number) = codes "refused " ++ decimal number
