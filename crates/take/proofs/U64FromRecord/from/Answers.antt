-- The sum of the parts is the number.
use Rattle.std.proofs.Common.{arith, rules}
use Rattle.take.specs.Record.{Within}
use Rattle.take.proofs.Records.{packed-sum}
use Rattle.take.proofs.U64FromRecord.from.Goals as goal

pub returns : goal.returns
returns c =
    let w : Within c.args.entry = record { line = search rules; kind = search rules; address = search rules; value = search rules } in
    omega (arith, packed-sum c.args.entry w)
