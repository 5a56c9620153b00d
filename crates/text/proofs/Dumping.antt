-- Law of an export as text.
use mathlib.Core.Path.{◌≡◌}
use mathlib.Core.List.{List}
use Prim.Native.Nat.{ℕ}
use lib.ListN.{length}
use Rattle.common.specs.Answers.{done}
use Rattle.chip.specs.declared.Chip.{Chip}
use Rattle.export.specs.Export.{Exports, export_answer, exported, bytes_of}
use Rattle.text.specs.declared.Output.{Output}
use Rattle.text.specs.Text.{Prints}
use Rattle.text.specs.Dump.{digit_line, export_line}

-- a buffer of 477 bytes is never refused
pub export_line_lem :
    {c : Chip} {before bytes : List ℕ} {r : ℕ} {o p : Output} →
    Exports c before bytes r →
    length before ≡ 477 →
    Prints o (digit_line r bytes 954) p →
    Prints o (export_line c) p
unfolding export_line export_answer
export_line_lem {c} {before} {bytes} {r} e size q =
    let answer : r ≡ done = rw size at e.answer in
    let filled : bytes ≡ bytes_of c exported = rw size at e.buffer in
    rw (answer, filled) at q
