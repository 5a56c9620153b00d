-- None is copied, then one more.
use Rattle.std.proofs.Common.{rules}
use Rattle.calls.proofs.Placing.{none-copied, more-copied}
use Rattle.calls.proofs.copied_out.Goals as goal

pub loop-i-init : goal.loop-i-init
loop-i-init c = none-copied _ _

pub loop-i-preserved : goal.loop-i-preserved
loop-i-preserved c = more-copied _ c.loop-i.list _ c.loop-i.i _ (search rules) c.byte_at.ensures c.loop-i.invariant
