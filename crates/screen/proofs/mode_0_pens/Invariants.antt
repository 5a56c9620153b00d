-- What each pass makes of a value.
use Rattle.picture.specs.Pens.{pen}
use Rattle.screen.specs.Placing.{copy_of}
use Rattle.screen.proofs.mode_0_pens.Given as goal

abbrev pub ghost-put_paired : goal.ghost-put_paired
ghost-put_paired a = pen 4

abbrev pub ghost-put_paired-2 : goal.ghost-put_paired-2
ghost-put_paired-2 a = copy_of

abbrev pub ghost-put_paired-3 : goal.ghost-put_paired-3
ghost-put_paired-3 a = copy_of
