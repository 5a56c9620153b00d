-- The entries up to the end of a stretch are in place, and the covers are those of that stretch.
use Rattle.std.proofs.Common.{◌≤◌, ◌-◌}
use Rattle.overlay.specs.Spans.{Carried}
use Rattle.draw.specs.Mixing.{over_at, Changed}
use Rattle.draw.proofs.lay_sprites.Given as goal

abbrev pub invariant-loop-s : goal.invariant-loop-s
invariant-loop-s l =
    (l.edges.left ≤ l.s.until) × (l.s.until ≤ l.edges.right) × Carried l.spans l.covers l.s.until l.s
    × Changed (over_at l.store l.shown.list l.shown.count) l.edges.left l.s.until l.fn.line l.line

abbrev pub decreases-loop-s : goal.decreases-loop-s
decreases-loop-s l = l.edges.right - l.s.until
