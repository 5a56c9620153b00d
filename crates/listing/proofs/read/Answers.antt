-- What the two passes say, and that it prints back.
use Rattle.std.proofs.Common.{rules}
use Rattle.listing.proofs.Answers.{read-served}
use Rattle.listing.proofs.RoundTrip.{read_back}
use Rattle.listing.proofs.read.Goals as goal

pub returns : goal.returns
returns c = read_back (read-served c.stored.ensures (search rules) (search rules))
