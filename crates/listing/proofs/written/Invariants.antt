-- The text of the words so far is written.
use Rattle.std.proofs.Common.{take}
use Rattle.common.specs.Storing.{Puts}
use Rattle.listing.specs.Text.{text_of}
use Rattle.listing.proofs.written.Given as goal

abbrev pub invariant-loop-word : goal.invariant-loop-word
invariant-loop-word l = Puts l.fn.text 0 (text_of (take l.word-index l.words)) l.text l.at
