-- The room that is left and the text of the words so far are all the room there was.
use Rattle.std.proofs.Common.{◌≡◌, ◌+◌, length, take}
use Rattle.listing.specs.Text.{text_of}
use Rattle.listing.proofs.fits.Given as goal

abbrev pub invariant-loop-word : goal.invariant-loop-word
invariant-loop-word l = l.left + length (text_of (take l.word-index l.words)) ≡ l.room
