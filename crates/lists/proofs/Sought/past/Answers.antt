-- A list that is not above moves the address to its end, or leaves it.
use Rattle.std.proofs.Common.{arith}
use Rattle.lists.proofs.Room.{past_end}
use Rattle.lists.proofs.Sought.past.Goals as goal

pub returns : goal.returns
returns c = rw (c.max.ensures, c.end_of.ensures.0) (past_end c.requires.0 (omega arith) (omega arith))
