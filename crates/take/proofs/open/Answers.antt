-- By the trailer, then by the records.
use Rattle.take.proofs.Opening.{refused, opened-bad, opened}
use Rattle.take.proofs.open.Goals as goal

pub returns-in-Err : goal.returns-in-Err
returns-in-Err c = rw c.not_opened.ensures (refused c.in-Err.refusal c.in-Err.ensures)

pub returns-in-Some : goal.returns-in-Some
returns-in-Some c = rw c.not_opened-in-Some.ensures (opened-bad c.in-Ok.ensures c.in-Some.bad c.in-Some.ensures)

pub returns : goal.returns
returns c = opened c.in-Ok.ensures c.in_default.ensures
