-- The entries below x are in place; in the search at x, none of those below k shows there.
use Rattle.std.proofs.Common.{◌≡◌, length}
use Rattle.overlay.specs.Stretches.{first_cover}
use Rattle.draw.specs.Mixing.{covered_at, Changed}
use Rattle.draw.proofs.lay_stretch.Given as goal

abbrev pub invariant-pixel : goal.invariant-pixel
invariant-pixel l =
    (length l.line ≡ 640) × Changed (covered_at l.store l.list l.covers l.count) l.from l.x l.fn.line l.line

abbrev pub invariant-loop-k : goal.invariant-loop-k
invariant-loop-k l = (l.line ≡ l.initial.line) × (first_cover l.store l.list l.covers l.x l.k ≡ 0)
