-- A reader made at the first place hands out what the law says.
use Rattle.reader.proofs.HandedOut.{reads-take}
use Rattle.reader.proofs.Reader.over.Goals as goal

pub returns : goal.returns
returns c = rw c.first_place.ensures (reads-take c.args.file)
