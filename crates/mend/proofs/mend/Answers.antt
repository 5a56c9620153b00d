-- The words of a buffer have 16 bits.
use Rattle.std.proofs.Common.{rules}
use Rattle.mend.proofs.Told.{mends}
use Rattle.mend.proofs.mend.Goals as goal

pub returns-in-Ok : goal.returns-in-Ok
returns-in-Ok c = mends (λ i. search rules) c.in-Ok.ensures
