-- Nothing is there, or the entry at the place before the next one.
use Rattle.ring.proofs.Laws.{newest-none, newest-some}
use Rattle.ring.proofs.Undo.newest.Goals as goal

pub returns-then-self-eq0 : goal.returns-then-self-eq0
returns-then-self-eq0 c = newest-none _ _ c.if-self-eq0.true

pub returns : goal.returns
returns c = newest-some _ _ c.if-self-eq0.false
