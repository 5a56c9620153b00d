-- What is left has the first bad record of all.
use Rattle.std.proofs.Common.{List, drop}
use Rattle.take.specs.Parts.{Given}
use Rattle.take.specs.declared.Record.{Record}
use Rattle.take.proofs.FirstBad.{Searched}
use Rattle.take.proofs.first_bad.first_bad.Given as goal

abbrev pub invariant-loop-i : goal.invariant-loop-i
invariant-loop-i g l = (all : List Record) → Given (goal.F-post g l.entry_at) l.count all → Searched all l.i l.before (drop l.i all)
