-- One place is set, and a place of 8 bits is its own remainder.
use Rattle.std.proofs.Common.{rules}
use Rattle.ring.proofs.Laws.{puts-at}
use Rattle.ring.proofs.Undo.put.Goals as goal

pub returns : goal.returns
returns c = puts-at _ _ _ (search rules) (search rules)
