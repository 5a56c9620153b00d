-- So many entries are put.
use Rattle.std.proofs.Common.{◌≡◌, ◌+◌, ℕ, get_or}
use Rattle.text.specs.Text.{Prints}
use Rattle.text.specs.Paint.{characters}
use Rattle.text.proofs.Output.entries.Given as goal

abbrev pub invariant-loop-x : goal.invariant-loop-x
invariant-loop-x l =
    record {
      prints : Prints l.fn.self (characters (λ (x : ℕ). get_or l.line x 0) l.x) l.self;
      place : l.self.at ≡ l.fn.self.at + l.x;
    }
