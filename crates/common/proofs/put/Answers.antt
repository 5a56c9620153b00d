-- One more of the bytes is stored.
use Rattle.std.proofs.Common.{rules}
use Rattle.common.proofs.Storing.{put-more}
use Rattle.common.proofs.put.Goals as goal

pub loop-i-preserved : goal.loop-i-preserved
loop-i-preserved c =
    let l = c.loop-i in
    (l.invariant.0, l.invariant.1, search rules, put-more _ l.buffer _ _ l.i (search rules) l.invariant.3)
