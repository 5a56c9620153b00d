-- The digits of the number, by its size.
use Rattle.std.proofs.Common.{arith}
use Rattle.digits.proofs.Digits.{one, two, three-parts, four-parts}
use Rattle.mnemonic.proofs.walk.put_decimal.Goals as goal

pub returns-in-0-to-9 : goal.returns-in-0-to-9
returns-in-0-to-9 g c = rw (one c.args.n (omega arith)) c.put_one.ensures

pub returns-in-10-to-99 : goal.returns-in-10-to-99
returns-in-10-to-99 g c = rw (two c.args.n (omega arith) (omega arith)) c.put_two.ensures

pub returns-in-100-to-999 : goal.returns-in-100-to-999
returns-in-100-to-999 g c =
    rw (three-parts c.args.n (omega arith) (omega arith))
    (g.met.S.Sink.joined _ _ _ _ _ c.put_one-in-100-to-999.ensures c.put_two-in-100-to-999.ensures)

pub returns-in_default : goal.returns-in_default
returns-in_default g c =
    rw (four-parts c.args.n (omega arith))
    (g.met.S.Sink.joined _ _ _ _ _ c.put_two-in_default.ensures c.put_two-in_default-2.ensures)
