-- The line with its entries.
use Rattle.std.proofs.Common.{ap, rules}
use Rattle.runs.specs.World.{World}
use Rattle.calls.specs.Orders.{Running}
use Rattle.calls.proofs.Shown.{shown-world, painted_line_lem}
use Rattle.calls.proofs.Runner.painted.Goals as goal

pub returns : goal.returns
returns c =
    let m = c.args.self.now in
    let beside : World → Running = λ w. record { world = w; waiting = m.machine.waiting } in
    let told = c.drawn-told.ensures.shows in
    record {
      does = record {
        state = rw c.drawn-told.ensures.is (ap beside (shown-world told (search rules) m.song.now m.picture.now m.slots.now));
        puts = rw (painted_line_lem told (search rules) m.song.now m.picture.now m.slots.now) at (rw c.drawn-told.ensures.is at c.painted.ensures.prints.puts);
        bound = search rules;
      };
      lent = search rules;
    }
