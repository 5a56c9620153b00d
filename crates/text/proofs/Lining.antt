-- Laws of a line that is put part by part.
use mathlib.Core.List.{List, ◌++◌}
use Prim.Native.Nat.{ℕ, zero, suc}
use Rattle.sound.specs.declared.Report.{Report}
use Rattle.sound.specs.Line.{did_of}
use Rattle.text.specs.Text.{spaced_numeral, did_text}

-- a report's cycles and the first so many of its channels
abbrev pub report_part : Report → ℕ → List ℕ
report_part r zero = spaced_numeral r.cycles
report_part r (suc n) = report_part r n ++ did_text (did_of r.entries n)
