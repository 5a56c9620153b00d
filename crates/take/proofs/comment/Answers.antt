-- The comment is the bytes before the offset, which is 0 where opening is refused.
use Rattle.std.proofs.Common.{arith, sym}
use lib.Seq.{length-take-le}
use Rattle.take.proofs.Opening.{offset_in, comment_is}
use Rattle.take.proofs.comment.Goals as goal

pub slice_bounds-result-end : goal.slice_bounds-result-end
slice_bounds-result-end c = let h = offset_in c.open-offset.ensures in sym (length-take-le _ _ (omega arith))

pub returns : goal.returns
returns c = comment_is c.open-offset.ensures
