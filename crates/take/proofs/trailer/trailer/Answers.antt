-- A file with a trailer has room for it, and its two numbers are the count and the offset.
use Rattle.std.proofs.Common.{arith, rules}
use Rattle.take.proofs.Trailers.{not_met, met, meets_not, meets-is, offset-after}
use Rattle.take.proofs.trailer.trailer.Goals as goal

pub returns-then-offset-count : goal.returns-then-offset-count
returns-then-offset-count c =
    let p = c.number_at-count.ensures in
    let q = offset-after c.args.file.now c.number_at-offset.ensures in
    not_met _ (search rules) (meets_not _ p q (λ e. omega arith))

pub returns : goal.returns
returns c =
    let p = c.number_at-count.ensures in
    let q = offset-after c.args.file.now c.number_at-offset.ensures in
    met _ p q (search rules) (meets-is _ p q (omega arith))
