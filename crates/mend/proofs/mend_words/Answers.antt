-- There is room for the change of one word more; the word is mended, and its change reported.
use Rattle.std.proofs.Common.{rules}
use Rattle.mend.proofs.Writing.{stage_room, stage_more}
use Rattle.mend.proofs.mend_words.Goals as goal

pub mend_word-count-requires : goal.mend_word-count-requires
mend_word-count-requires c = stage_room c.loop-place.invariant (search rules) c.requires (search rules)

pub loop-place-preserved : goal.loop-place-preserved
loop-place-preserved c = stage_more c.loop-place.invariant (search rules) c.mend_word-count.ensures
