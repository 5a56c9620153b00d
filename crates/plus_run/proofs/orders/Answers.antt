-- None of the orders is served, then one more.
use Rattle.std.proofs.Common.{arith, rules}
use Rattle.plus_run.specs.Blocks.{orders_served}
use Rattle.plus_run.proofs.Serving.{taken, served-order, served-more}
use Rattle.plus_run.proofs.orders.Goals as goal

pub loop-bytes-init : goal.loop-bytes-init
unfolding orders_served
loop-bytes-init g c = search rules

pub loop-bytes-preserved : goal.loop-bytes-preserved
loop-bytes-preserved g c =
    let serves = rw c.with_room.ensures.running at c.serve.ensures.serves in
    let order = taken c.args.block.now _ c.loop-bytes.bytes-index _ (omega arith) (rw c.as_chunks.ensures.front at c.order_in.ensures) in
    record {
      ready = search rules;
      lent = search rules;
      served = served-more _ _ c.loop-bytes.bytes-index c.loop-bytes.invariant.served (served-order order serves);
    }
