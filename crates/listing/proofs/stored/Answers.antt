-- Before each place a word is left; it is stored there, and its line is one more.
use Rattle.std.proofs.Common.{◌<◌, length, ap, rules, arith, length-append}
use Rattle.listing.proofs.Parsing.{words_of}
use Rattle.listing.proofs.Stages.{listed, line_first, passed, word-is, stored_more, all-stored}
use Rattle.listing.proofs.stored.Goals as goal

pub split_at-requires : goal.split_at-requires
split_at-requires c =
    let h : c.loop-place.place-index < length (words_of c.args.text.now) = omega (arith, (listed c.requires).1) in
    let line = line_first c.loop-place.invariant.0 h c.guess-word.ensures in
    omega (arith, c.width.ensures, simp length-append at (ap length line))

pub loop-place-preserved : goal.loop-place-preserved
loop-place-preserved c =
    let l = c.loop-place in
    let h : l.place-index < length (words_of c.args.text.now) = omega (arith, (listed c.requires).1) in (
      passed l.invariant.0 h c.guess-word.ensures c.width.ensures c.split_at.ensures.back,
      stored_more _ _ _ h (search rules) (word-is l.invariant.0 h c.guess-word.ensures) l.invariant.1,
    )

pub returns : goal.returns
returns c = all-stored c.requires (search rules) c.loop-place.invariant.1 (search rules)
