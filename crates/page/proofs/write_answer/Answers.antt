-- A refused read refuses the write; else the register decides.
use Rattle.std.proofs.Common.{sym, ◌∙◌}
use Rattle.page.proofs.PageAnswers.{refused, rest_decides}
use Rattle.page.proofs.write_answer.Goals as goal

pub returns-then-answer-ne-DONE : goal.returns-then-answer-ne-DONE
returns-then-answer-ne-DONE c =
    c.read_answer-answer.ensures ∙ refused _ _ _ _ (rw c.read_answer-answer.ensures at c.if-answer-ne-DONE.true)

pub returns : goal.returns
returns c =
    c.answer_number.ensures ∙ c.register_answer.ensures ∙ sym (rest_decides _ _ _ _ (sym c.read_answer-answer.ensures ∙ c.if-answer-ne-DONE.false))
