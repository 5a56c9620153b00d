-- The records are those that stand one after the other.
use Rattle.std.proofs.Common.{rules, drop}
use Rattle.take.specs.Open.{records_from}
use Rattle.take.proofs.Opening.{length_from, read-at}
use Rattle.take.proofs.first_bad.of_file.Goals as goal

pub returns : goal.returns
returns c =
    let bytes = drop c.args.ends.offset c.args.file.now in
    c.first_bad.ensures (records_from c.args.ends.count bytes) (record { many = length_from c.args.ends.count bytes; each = λ i r h e. rw (read-at c.args.file.now c.args.ends.offset c.args.ends.count i h) (search rules) })
