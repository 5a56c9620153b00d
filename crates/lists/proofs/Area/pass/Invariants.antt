-- The lists of the handles below this one are seen.
use Rattle.lists.specs.Search.{Passed}
use Rattle.lists.proofs.Area.pass.Given as goal

abbrev pub invariant-loop-k : goal.invariant-loop-k
invariant-loop-k l = Passed l.fn.self.used l.fn.places l.bytes l.from l.k l.at
