-- The cycles and so many of the channels are put.
use Rattle.std.proofs.Common.{◌+◌, ◌*◌, ◌≤◌}
use Rattle.text.specs.Text.{Prints}
use Rattle.text.proofs.Lining.{report_part}
use Rattle.text.proofs.Output.reported.Given as goal

abbrev pub invariant-loop-entry : goal.invariant-loop-entry
invariant-loop-entry l =
    record {
      prints : Prints l.fn.self (report_part l.fn.report l.entry-index) l.self;
      bound : l.self.at ≤ l.fn.self.at + 21 + 29 * l.entry-index;
    }
