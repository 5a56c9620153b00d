-- The records before this one are stored.
use Rattle.std.proofs.Common.{take, map}
use Rattle.common.specs.Storing.{Puts}
use Rattle.take.specs.File.{records_bytes}
use Rattle.take.specs.Record.{unpacked}
use Rattle.take.proofs.writer.put_records.Given as goal

abbrev pub invariant-loop-number : goal.invariant-loop-number
invariant-loop-number l = Puts l.fn.output l.offset (records_bytes (map unpacked (take l.number-index l.records))) l.output l.at
