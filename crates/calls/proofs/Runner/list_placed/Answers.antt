-- The list is copied out, and the line has the answer, the address and the handle.
use Rattle.std.proofs.Common.{◌≡◌, ap, ◌∙◌, length, length-take-le, rules}
use Rattle.runs.specs.Call.{Reply}
use Rattle.runs.specs.World.{World}
use Rattle.calls.specs.Orders.{Running, running_of, length_in, told_line}
use Rattle.calls.proofs.Placing.{placing}
use Rattle.calls.proofs.Runner.list_placed.Goals as goal
use Rattle.calls.proofs.Runner.list_placed.Goals.{After-copied_out}

copied-size : (c : After-copied_out) → length c.copied_out.new.list ≡ length_in c.args.self.now.machine.waiting c.args.value
copied-size c = (c.copied_out.auto.list ∙ length-take-le _ _ (search rules)) ∙ c.from_le_bytes-bytes.ensures

pub returns : goal.returns
returns c =
    let m = c.args.self.now in
    let beside : World → Running = λ w. record { world = w; waiting = m.machine.waiting } in
    let size = copied-size (goal.at.returns c).After-copied_out in
    let done = placing (running_of m).world (rw (rw size at c.copied_out.ensures) at c.place-told.ensures) in
    record {
      does = record {
        state = rw c.placed.ensures.is (ap beside done.world_is);
        puts = rw (ap (λ (x : Reply). told_line x.answer x.told) done.reply-is) at c.placed.ensures.prints.puts;
        bound = search rules;
      };
      lent = search rules;
    }
