-- Each word so far has a byte at least, and the rest is behind their lines.
use Rattle.std.proofs.Common.{◌+◌, ◌≤◌, length}
use Rattle.listing.proofs.Stages.{Stage}
use Rattle.listing.proofs.checked.Given as goal

abbrev pub invariant-loop-rest : goal.invariant-loop-rest
invariant-loop-rest l = (l.count + length l.rest ≤ length l.text) × Stage l.text l.rest l.count

abbrev pub decreases-loop-rest : goal.decreases-loop-rest
decreases-loop-rest l = length l.rest
