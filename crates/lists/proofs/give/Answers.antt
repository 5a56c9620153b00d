-- Proper bounds are at most 65,536, and the lower one is below the higher: half of each fits 16 bits.
use Rattle.std.proofs.Common.{rules, arith}
use Rattle.lists.proofs.Bounds.{proper-is}
use Rattle.lists.proofs.give.Goals as goal

pub overflow_cast-result : goal.overflow_cast-result
overflow_cast-result c =
    let p = proper-is c.args.from c.args.upto (search rules) in
    omega (arith, p.order, p.small)

pub overflow_cast-result-2 : goal.overflow_cast-result-2
overflow_cast-result-2 c = omega (arith, (proper-is c.args.from c.args.upto (search rules)).small)
