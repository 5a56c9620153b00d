-- The line of the answer, and of the list that is as long as it says.
use Rattle.std.proofs.Common.{rules}
use Rattle.calls.specs.Orders.{foretold_line}
use Rattle.calls.proofs.Runner.foretold.Goals as goal

pub returns : goal.returns
unfolding foretold_line
returns c =
    let told = c.forecast-told.ensures in
    record {
      does = record {
        state = search rules;
        puts = simp (told.answer, told.lines, told.cycles, told.most, c.list-bytes.ensures) at c.forecast.ensures.prints.puts;
        bound = search rules;
      };
      lent = search rules;
    }
