-- The words so far are mended, and their changes reported.
use Rattle.mend.proofs.Writing.{Stage}
use Rattle.mend.proofs.mend_words.Given as goal

abbrev pub invariant-loop-place : goal.invariant-loop-place
invariant-loop-place l = Stage l.fn.words l.fn.report l.words l.report l.count l.place
