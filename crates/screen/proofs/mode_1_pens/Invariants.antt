-- The pens of the characters below c are in place.
use Rattle.std.proofs.Common.{◌≡◌, ◌*◌, length}
use Rattle.screen.specs.MainLine.{line_pen}
use Rattle.screen.specs.Placing.{Placed}
use Rattle.screen.proofs.mode_1_pens.Given as goal

abbrev pub invariant-loop-c : goal.invariant-loop-c
invariant-loop-c l = (length l.line ≡ 656) × Placed (line_pen l.ram 1 l.address l.row) 16 (l.c * 16) l.fn.line l.line
