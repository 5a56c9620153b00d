-- The answer and so many of the other numbers are put.
use Rattle.std.proofs.Common.{◌+◌, ◌*◌, ◌≤◌, ◌++◌, List, ℕ, take, fold}
use Rattle.text.specs.Text.{numeral, spaced_numeral, Prints}
use Rattle.text.proofs.Output.answered.Given as goal

abbrev pub invariant-loop-n : goal.invariant-loop-n
invariant-loop-n l =
    record {
      prints : Prints l.fn.self (fold (λ (text : List ℕ) n. text ++ spaced_numeral n) (numeral l.answer) (take l.n-index l.others)) l.self;
      bound : l.self.at ≤ l.fn.self.at + 20 + 21 * l.n-index;
    }
