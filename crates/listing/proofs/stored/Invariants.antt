-- The words so far stand at the first places, and the rest is behind their lines.
use Rattle.std.proofs.Common.{◌≡◌, take}
use Rattle.listing.proofs.Parsing.{words_of}
use Rattle.listing.proofs.Stages.{Stage}
use Rattle.listing.proofs.stored.Given as goal

abbrev pub invariant-loop-place : goal.invariant-loop-place
invariant-loop-place l =
    Stage l.text l.rest l.place-index × (take l.place-index l.places ≡ take l.place-index (words_of l.text))
