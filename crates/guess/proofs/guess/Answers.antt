-- The guess looks at the bytes of a longest line alone; a short text with zeros after it has the same bytes.
use Rattle.std.proofs.Common.{◌∙◌, get_or-take}
use Rattle.guess.proofs.Guessing.{same_guess, padded}
use Rattle.guess.proofs.guess.Goals as goal

pub returns-in-Some : goal.returns-in-Some
returns-in-Some c =
    c.word.ensures
    ∙ same_guess _ c.args.text.now (λ i h. rw c.in-Some.ensures.cases.same (get_or-take _ c.args.text.now i 0 h))

pub returns : goal.returns
returns c =
    c.word-2.ensures
    ∙ same_guess _ c.args.text.now (λ i h. rw c.copy_from_slice.ensures.after (padded c.args.text.now _ i))
