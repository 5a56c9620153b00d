-- Before turn k the bytes of the first k registers stand in front.
use Rattle.std.proofs.Common.{◌≡◌, ◌*◌, ◌≤◌, take}
use Rattle.export.specs.Export.{exported, bytes_of}
use Rattle.export.proofs.export.Given as goal

abbrev pub invariant-loop-k : goal.invariant-loop-k
invariant-loop-k l = (l.k ≤ 159) × (take (l.k * 3) l.out ≡ bytes_of l.chip (take l.k exported))
