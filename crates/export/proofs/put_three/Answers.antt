-- Three stores, one after the other.
use Rattle.std.proofs.Common.{rules}
use Rattle.export.proofs.Putting.{three}
use Rattle.export.proofs.put_three.Goals as goal

pub returns : goal.returns
returns c = three _ _ _ _ (search rules)
