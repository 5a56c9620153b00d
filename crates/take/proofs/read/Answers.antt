-- By the trailer, then by the number.
use Rattle.std.proofs.Common.{arith, inl, inr}
use Rattle.std.proofs.lemmas.Result.{err_from_is_err_and}
use Rattle.take.proofs.Opening.{none_read, number_0, number_past, one-read}
use Rattle.take.proofs.read.Goals as goal

pub returns-in_err-ends : goal.returns-in_err-ends
returns-in_err-ends c =
    let p = err_from_is_err_and c.from_residual.result c.from_residual.ensures.1 in
    rw (p.1, p.2) (none_read _ c.in_err-ends.ensures c.args.number)

pub returns-then-number-eq0 : goal.returns-then-number-eq0
returns-then-number-eq0 c =
    elim c.then-number-eq0.either
    [ inl z ↦ number_0 c.in_ok-ends.ensures _ z | inr z ↦ number_past c.in_ok-ends.ensures _ z.1 ]

pub returns : goal.returns
returns c = one-read c.in_ok-ends.ensures _ c.if-number-eq0.false (omega arith) c.record_from.ensures
