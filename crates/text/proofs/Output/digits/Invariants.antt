-- The digits of so many bytes are put.
use Rattle.std.proofs.Common.{◌≡◌, ◌+◌, ◌*◌}
use Rattle.text.specs.Text.{Prints}
use Rattle.text.specs.Paint.{characters}
use Rattle.text.specs.Dump.{digit_at}
use Rattle.text.proofs.Output.digits.Given as goal

abbrev pub invariant-loop-byte : goal.invariant-loop-byte
invariant-loop-byte l =
    record {
      prints : Prints l.fn.self (characters (digit_at l.bytes) (2 * l.byte-index)) l.self;
      place : l.self.at ≡ l.fn.self.at + 2 * l.byte-index;
    }
