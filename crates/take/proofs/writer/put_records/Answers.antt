-- One more record is stored, and at the end all are.
use Rattle.std.proofs.Common.{arith}
use Rattle.take.proofs.Storing.{records-more, records-all}
use Rattle.take.proofs.writer.put_records.Goals as goal

pub loop-number-preserved : goal.loop-number-preserved
loop-number-preserved c =
    let l = c.loop-number in
    records-more c.args.records.now l.invariant c.loop-number-test.true (c.type_inv.records l.number-index).fits (omega arith)
    c.to_le_bytes.ensures c.put-at.ensures

pub returns : goal.returns
returns c = records-all c.args.records.now c.loop-number.invariant c.loop-number-test.false
