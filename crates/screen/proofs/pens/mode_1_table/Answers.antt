-- Every entry passes the test, which the checker computes.
use Rattle.std.proofs.Common.{refl}
use Rattle.picture.specs.Pens.{pen}
use Rattle.screen.proofs.Table.{right, tabled}
use Rattle.screen.proofs.pens.mode_1_table.Goals as goal

pub returns : goal.returns
unfolding pen right
returns c = tabled 2 refl tt
