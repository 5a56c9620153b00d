-- The first j positions have their pens.
use Rattle.picture.specs.Pens.{pen_at}
use Rattle.screen.specs.Placing.{Placed}
use Rattle.screen.proofs.put_pens.Given as goal

abbrev pub invariant-loop-j : goal.invariant-loop-j
invariant-loop-j l = Placed (pen_at 2 l.byte) l.at l.j l.fn.line l.line
