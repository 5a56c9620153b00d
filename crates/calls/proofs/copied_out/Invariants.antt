-- The bytes are copied one by one.
use Rattle.std.proofs.Common.{◌≡◌, take}
use Rattle.calls.specs.Orders.{copied}
use Rattle.calls.proofs.copied_out.Given as goal

abbrev pub invariant-loop-i : goal.invariant-loop-i
invariant-loop-i l = take l.i l.list ≡ copied l.ram l.address l.i
