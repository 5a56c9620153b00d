-- Undo's own promise, for the editor of this number, and what it takes back in a run.
use Rattle.plus.proofs.Undo.{told}
use Rattle.plus.proofs.plus_undo.Goals as goal

pub returns : goal.returns
returns c = told (rw c.from.ensures at c.undo.ensures)
