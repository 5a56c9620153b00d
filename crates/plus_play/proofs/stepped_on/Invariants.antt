-- No line costs the channel over 255 cycles.
use Rattle.std.proofs.Common.{◌*◌, ◌≤◌}
use Rattle.plus_play.proofs.stepped_on.Given as goal

abbrev pub invariant-loop-lines : goal.invariant-loop-lines
invariant-loop-lines l = l.cycles ≤ l.lines * 255
