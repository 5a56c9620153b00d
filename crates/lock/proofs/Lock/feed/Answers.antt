-- The lock is `fed`'s, and the laws of the stages give the rest.
use Rattle.std.proofs.Common.{rules}
use Rattle.lock.specs.Machine.{fed}
use Rattle.lock.proofs.Steps.{feeds}
use Rattle.lock.proofs.Lock.feed.Goals as goal

pub returns : goal.returns
unfolding fed
returns c = feeds _ _ _ (search rules)
