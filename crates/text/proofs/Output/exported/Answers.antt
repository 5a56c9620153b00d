-- The line of 477 bytes, which are never refused.
use Rattle.std.proofs.Common.{◌≡◌, length, rules}
use Rattle.text.proofs.Dumping.{export_line_lem}
use Rattle.text.proofs.Output.exported.Goals as goal

pub returns-clause-prints : goal.returns-clause-prints
returns-clause-prints c =
    let size : length c.export-answer.new.out ≡ 477 = search rules in
    export_line_lem c.export-answer.ensures (search rules) (rw size at c.dumped.ensures.prints)
