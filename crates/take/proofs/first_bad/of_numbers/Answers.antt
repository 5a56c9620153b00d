-- The records are those in the numbers.
use Rattle.std.proofs.Common.{map, rules}
use Rattle.std.proofs.lemmas.List.{length-map}
use Rattle.std.proofs.Math.ListN.{get_or-map}
use Rattle.take.specs.Record.{unpacked}
use Rattle.take.proofs.first_bad.of_numbers.Goals as goal

pub returns : goal.returns
returns c =
    let ns = c.args.numbers.now in
    c.first_bad.ensures (map unpacked ns) (record { many = length-map ns unpacked; each = λ i r h e. rw (get_or-map unpacked ns i 0) (search rules) })
