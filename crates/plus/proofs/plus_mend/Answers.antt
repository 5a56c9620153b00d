-- Mending's own promise, and how the mended words play.
use Rattle.plus.proofs.Mend.{told}
use Rattle.plus.proofs.plus_mend.Goals as goal

pub returns : goal.returns
returns c = told c.mend.ensures
