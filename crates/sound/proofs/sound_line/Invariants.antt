-- Before turn n the channels below n have been worked through.
use Rattle.std.proofs.Common.{◌≡◌}
use Rattle.sound.proofs.Worked.{line_of, worked}
use Rattle.sound.proofs.sound_line.Given as goal

abbrev pub invariant-loop-n : goal.invariant-loop-n
invariant-loop-n l =
    line_of l.sound l.entries l.cycles ≡ worked l.fn.ram l.fn.accesses l.fn.sound l.n
