-- Serves only the code's own parts, in the contracts of private functions. No public promise cites it.
use Rattle.std.specs.Prelude.{◌≡◌, List, ℕ, ◌+◌, ◌≤◌}
use Rattle.chip.specs.declared.Chip.{Chip}
use Rattle.text.specs.Text.{Prints}
use Rattle.calls.specs.declared.Runner.{Runner}

-- a runner that has put this line, and has this chip; else it is as before
pub record Tells (m : Runner) (next : Chip) (text : List ℕ) (m' : Runner) : Type 0 where
  pub is : m' ≡ record m { machine = record m.machine { chip = next }; out = m'.out }
  pub prints : Prints m.out text m'.out
  pub bound : m'.out.at ≤ m.out.at + 1024
