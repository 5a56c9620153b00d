-- What is left of the lines comes to the same.
use Rattle.std.proofs.Common.{◌≡◌, ◌-◌}
use Rattle.replay.specs.Parts.{moved, lines_on}
use Rattle.replay.proofs.lines_on.Given as goal

abbrev pub invariant-loop : goal.invariant-loop
invariant-loop l =
    lines_on l.ram (l.to - l.counter) (moved l.chip l.sound l.crtc l.raster) ≡ lines_on l.ram (l.to - l.from) l.chip
