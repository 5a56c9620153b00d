-- What `strip_prefix` says of a part.
use Rattle.std.proofs.lemmas.Bool.Decides.{Decides-eqb}
use Rattle.std.proofs.lemmas.Slice.Eq.{strip_prefix_is}
use Rattle.compare.proofs.RestSink.part.Goals as goal

pub returns-in-Some : goal.returns-in-Some
returns-in-Some c = rw c.in-Some.is (strip_prefix_is Decides-eqb _ _ _ c.strip_prefix-self.ensures.cases)
