-- No address from the bound up to the present one is clear.
use Rattle.std.proofs.Common.{◌-◌}
use Rattle.lists.specs.Area.{lower}
use Rattle.lists.proofs.Room.{SoughtTo}
use Rattle.lists.proofs.Area.lowest.Given as goal

abbrev pub invariant-loop-self : goal.invariant-loop-self
invariant-loop-self l = SoughtTo l.self.used l.places l.bytes (lower l.self) l.a

abbrev pub decreases-loop-self : goal.decreases-loop-self
decreases-loop-self l = 65536 - l.a
