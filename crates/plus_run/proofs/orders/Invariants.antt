-- Some orders are served, and the runner is ready for the next.
use Rattle.std.proofs.Common.{◌≡◌}
use Rattle.calls.specs.Orders.{running_of, SameBuffers}
use Rattle.plus_run.specs.Blocks.{Ready, orders_served}
use Rattle.plus_run.proofs.orders.Given as goal

abbrev pub invariant-loop-bytes : goal.invariant-loop-bytes
invariant-loop-bytes g l =
    record {
      ready : Ready l.m;
      lent : SameBuffers l.fn.m l.m;
      served : running_of l.m ≡ orders_served (running_of l.fn.m) l.block l.bytes-index;
    }
