-- Pairs of pens, doubled twice.
use Rattle.std.proofs.Common.{refl, rules}
use Rattle.picture.specs.Pens.{pen_at}
use Rattle.screen.proofs.Pairs.{pens_of}
use Rattle.screen.proofs.mode_0_pens.Goals as goal

pub returns : goal.returns
unfolding pen_at
returns c =
    pens_of 0 _ _ _ (λ i j h. refl) c.line_bytes-bytes.ensures c.put_paired.ensures c.put_paired-2.ensures c.put_paired-3.ensures
    (search rules) (search rules) (search rules)
