-- A byte's parts by 16, theirs by 4 and theirs by 2 are its bits.
use Rattle.std.proofs.Common.{rules}
use Rattle.screen.proofs.Pairs.{bits, pens_of}
use Rattle.screen.proofs.mode_2_pens.Goals as goal

pub returns : goal.returns
returns c =
    pens_of 2 _ _ _ (λ i. bits (c.type_inv.ram i).fits) c.line_bytes-bytes.ensures c.put_paired.ensures c.put_paired-2.ensures
    c.put_paired-3.ensures (search rules) (search rules) (search rules)
