-- The line of one more word is written.
use Rattle.std.proofs.Common.{rules}
use Rattle.listing.proofs.Texts.{written-more}
use Rattle.listing.proofs.written.Goals as goal

pub loop-word-preserved : goal.loop-word-preserved
loop-word-preserved c =
    let l = c.loop-word in
    written-more c.args.words.now l.word-index (search rules) l.invariant (search rules) c.put_line-at.ensures
