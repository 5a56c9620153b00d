-- The bytes of the characters below c are there.
use Rattle.std.proofs.Common.{◌≡◌, ℕ, ◌*◌, ◌<◌, get_or, length}
use Rattle.screen.specs.Placing.{line_byte}
use Rattle.screen.proofs.line_bytes.Given as goal

abbrev pub invariant-loop-c : goal.invariant-loop-c
invariant-loop-c l = (length l.bytes ≡ 80) × ((i : ℕ) → i < 2 * l.c → get_or l.bytes i 0 ≡ line_byte l.ram l.address l.row i)
