-- Three refusals in their order, then the pass that writes, and the added STOP where none stood there.
use Rattle.std.proofs.Common.{arith, ◌∙◌}
use Rattle.mend.proofs.Measuring.{count-few}
use Rattle.mend.proofs.Answers.{more_in_use, no_room, too_small, stopped-served, open_served}
use Rattle.mend.proofs.mend_list.Goals as goal
use Rattle.mend.proofs.mend_list.Goals.{then-not-seen, else-not-seen}

pub returns-then-words-used : goal.returns-then-words-used
returns-then-words-used c = more_in_use c.if-words-used.true

pub returns-then-words-used-2 : goal.returns-then-words-used-2
returns-then-words-used-2 c = no_room _ _ c.if-words-used.false c.measured-seen.ensures c.from-added.ensures c.if-words-used-2.true

pub returns-then-report-changes : goal.returns-then-report-changes
returns-then-report-changes c =
    too_small _ _ c.if-words-used.false c.measured-seen.ensures c.from-added.ensures c.if-words-used-2.false c.if-report-changes.true

pub overflow_add-changes : goal.overflow_add-changes
overflow_add-changes c = omega (arith, count-few c.args.words.now c.args.used, c.measured-seen.ensures.changing)

pub returns : goal.returns
returns c =
    elim c.if-not-seen.branch [
      | then-not-seen w ↦
          open_served _ _ c.if-words-used.false c.measured-seen.ensures c.from-added.ensures c.if-words-used-2.false c.if-report-changes.false
          c.mend_words.ensures w.if-not-seen.true w.words-is (w.report-is ∙ w.put_change.ensures)
      | else-not-seen w ↦
          stopped-served _ _ c.if-words-used.false c.measured-seen.ensures c.from-added.ensures c.if-words-used-2.false c.if-report-changes.false
          c.mend_words.ensures w.if-not-seen.false w.words-is w.report-is
    ]
