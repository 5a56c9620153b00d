-- With no sprite nothing is laid; a stretch more is laid by those that cover it.
use native.Mathlib.Nat.{le_of_lt, le_trans}
use Rattle.overlay.proofs.Covers.{carried_on}
use Rattle.draw.proofs.Entries.{measure_falls, changed-on, changed-same, stretch_covered, stretch_same, none_laid}
use Rattle.draw.proofs.lay_sprites.Goals as goal

pub returns-then-shown-eq0 : goal.returns-then-shown-eq0
returns-then-shown-eq0 c = none_laid _ _ c.if-shown-eq0.true

pub lay_stretch-requires : goal.lay_stretch-requires
lay_stretch-requires c =
    let j = c.next_stretch-s.ensures in
    (le_of_lt j.ending.some, le_trans j.inside c.args.edges.in_line, stretch_covered c.of-spans.ensures j)

pub loop-s-smaller : goal.loop-s-smaller
loop-s-smaller c = let j = c.next_stretch-s.ensures in measure_falls j.ending.some j.inside

pub loop-s-preserved : goal.loop-s-preserved
loop-s-preserved c =
    let l = c.loop-s in
    let j = c.next_stretch-s.ensures in
    let more = le_of_lt j.ending.some in (
      le_trans l.invariant.0 more,
      j.inside,
      carried_on j.carried _ more,
      changed-on l.invariant.3 l.invariant.0 more (changed-same c.lay_stretch.ensures
          (stretch_same c.of-spans.ensures j _)),
    )
