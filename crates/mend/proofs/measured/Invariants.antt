-- The changes and the STOPs of the words so far.
use Rattle.std.proofs.Common.{◌≡◌, length, take}
use Rattle.words.specs.Words.{has_stop}
use Rattle.mend.specs.Rule.{changes_from}
use Rattle.mend.proofs.measured.Given as goal

abbrev pub invariant-loop-word : goal.invariant-loop-word
invariant-loop-word l =
    (l.changes ≡ length (changes_from 0 (take l.word-index l.words))) × (l.stop ≡ has_stop (take l.word-index l.words))
