-- The first that shows at x is laid there; with none the entry stays.
use Rattle.std.proofs.Common.{◌<◌, ◌≡◌, refl, arith, rules}
use Rattle.draw.proofs.Entries.{changed-more, changed-kept, search-on, sprite-entry, no_cover, no_entry, none_covers}
use Rattle.draw.proofs.lay_stretch.Goals as goal

pub returns-then-count-eq0 : goal.returns-then-count-eq0
returns-then-count-eq0 c = none_covers _ _ _ c.if-count-eq0.true

pub pixel-preserved-then-first-ne0 : goal.pixel-preserved-then-first-ne0
pixel-preserved-then-first-ne0 c =
    let l = c.pixel in
    let some : 0 < c.args.s.count = omega arith in (
      search rules,
      changed-more l.invariant.1 l.auto.x (rw l.invariant.0 (omega arith))
          (sprite-entry _ _ _ _ 0 c.pixel_of-first.ensures.0 (no_cover _ _ _ _) _ _ some c.if-first-ne0.true),
    )

pub loop-k-init : goal.loop-k-init
loop-k-init c = (refl, search-on _ _ _ _ 0 c.pixel_of-first.ensures.0 (no_cover _ _ _ _) c.if-first-ne0.false)

pub pixel_of-pixel-requires : goal.pixel_of-pixel-requires
pixel_of-pixel-requires c =
    let less = c.pixel-test.true in
    (omega arith, c.requires.2.each c.loop-k.k c.loop-k-test.true c.pixel.x c.pixel.auto.x less)

pub pixel-preserved-then-pixel-ne0 : goal.pixel-preserved-then-pixel-ne0
pixel-preserved-then-pixel-ne0 c =
    let l = c.loop-k in
    let o = c.pixel in
    let laid = rw (← l.invariant.0) at o.invariant.1 in
    let size = rw (← l.invariant.0) at o.invariant.0 in (
      search rules,
      changed-more laid o.auto.x (rw size (omega arith))
          (sprite-entry _ _ _ _ _ c.pixel_of-pixel.ensures.0 l.invariant.1 _ _ c.loop-k-test.true c.if-pixel-ne0.true),
    )

pub loop-k-preserved : goal.loop-k-preserved
loop-k-preserved c =
    let l = c.loop-k in
    (l.invariant.0, search-on _ _ _ _ _ c.pixel_of-pixel.ensures.0 l.invariant.1 c.if-pixel-ne0.false)

pub pixel-preserved : goal.pixel-preserved
pixel-preserved c =
    let l = c.loop-k in
    let o = c.pixel in
    let laid = rw (← l.invariant.0) at o.invariant.1 in
    let last : l.k ≡ c.args.s.count = omega arith in
    (search rules, changed-kept laid (no_entry _ _ _ _ _ _ (rw last at l.invariant.1)))
