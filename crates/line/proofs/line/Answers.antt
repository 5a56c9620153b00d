-- Drawn, then stepped by the answer of drawing.
use Rattle.std.proofs.Common.{rules}
use Rattle.line.proofs.Step.{shows}
use Rattle.line.proofs.line.Goals as goal

pub returns : goal.returns
returns c = shows c.draw-drawn.ensures (search rules)
