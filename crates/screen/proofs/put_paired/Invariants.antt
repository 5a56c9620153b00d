-- The values below i are there twice.
use Rattle.std.proofs.Common.{◌*◌}
use Rattle.screen.specs.Placing.{paired, Placed}
use Rattle.screen.proofs.put_paired.Given as goal

abbrev pub invariant-loop-i : goal.invariant-loop-i
invariant-loop-i g l = Placed (paired g.f l.from) l.at (2 * l.i) l.fn.pens l.pens
