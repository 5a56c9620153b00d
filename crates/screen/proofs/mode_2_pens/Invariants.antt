-- What each pass makes of a value.
use Rattle.screen.specs.Placing.{part_of}
use Rattle.screen.proofs.mode_2_pens.Given as goal

abbrev pub ghost-put_paired : goal.ghost-put_paired
ghost-put_paired a = part_of 16

abbrev pub ghost-put_paired-2 : goal.ghost-put_paired-2
ghost-put_paired-2 a = part_of 4

abbrev pub ghost-put_paired-3 : goal.ghost-put_paired-3
ghost-put_paired-3 a = part_of 2
