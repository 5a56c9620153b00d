-- Refused by the answer, else the register that is decoded gets the byte.
use Rattle.std.proofs.Common.{ap, ◌∙◌}
use Rattle.ring.specs.declared.Undo.{Undo}
use Rattle.page.specs.Page.{write_answer}
use Rattle.page.specs.Parts.{refusal}
use Rattle.page.proofs.Ways.{write-refused, write-served}
use Rattle.page.proofs.write_change.Goals as goal

pub returns-then-answer-ne-DONE : goal.returns-then-answer-ne-DONE
unfolding write_answer
returns-then-answer-ne-DONE c =
    let a = c.args in
    write-refused a.chip a.editor a.store.now a.place.now a.address a.byte
    (rw c.register_at-register.ensures at c.write_answer-answer.ensures) c.if-answer-ne-DONE.true
    (c.refusal.ensures ∙ ap (λ (u : Undo). refusal u c.write_answer-answer.result) c.undo_of-undo.ensures)

pub returns : goal.returns
unfolding write_answer
returns c =
    let a = c.args in
    write-served a.chip a.editor a.store.now a.place.now a.address a.byte
    (rw c.register_at-register.ensures at c.write_answer-answer.ensures) c.if-answer-ne-DONE.false
    c.register_at-register.ensures c.contents_of-before.ensures c.contents_of-before.type_inv (rw c.undo_of-undo.ensures at c.kept.ensures)
