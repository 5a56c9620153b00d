-- What is summed up so far and what is ahead make the whole.
use Rattle.std.proofs.Common.{◌+◌, ◌*◌}
use Rattle.forecast.specs.Rule.{even}
use Rattle.forecast.proofs.Pass.{Scanned}
use Rattle.forecast.proofs.forecast.Given as goal

abbrev pub invariant-loop-bytes : goal.invariant-loop-bytes
invariant-loop-bytes l = Scanned l.ram l.prescale (even l.start) (even l.start + l.bytes-index * 2) l.scan
