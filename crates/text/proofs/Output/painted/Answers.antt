-- The answer alone, or the answer, the entries and the report.
use Rattle.text.proofs.Putting.{joined}
use Rattle.text.proofs.Painting.{refused-line, shown-line}
use Rattle.text.proofs.Output.painted.Goals as goal
use Rattle.text.proofs.Output.painted.Goals.{then-answer-eq-DONE, else-answer-eq-DONE}

pub returns-clause-prints : goal.returns-clause-prints
returns-clause-prints c =
    let number = rw c.from.ensures at c.number.ensures.prints in
    elim c.if-answer-eq-DONE.branch [
      | then-answer-eq-DONE w ↦
          let shown = joined (joined w.put.ensures w.entries.ensures.prints) w.reported.ensures.prints in
          shown-line _ _ _ w.if-answer-eq-DONE.true (joined (joined number shown) (rw w.self-is at c.ended.ensures.prints))
      | else-answer-eq-DONE w ↦
          refused-line _ _ _ w.if-answer-eq-DONE.false (joined number (rw w.self-is at c.ended.ensures.prints))
    ]
