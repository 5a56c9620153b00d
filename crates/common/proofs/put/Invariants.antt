-- Some of the bytes are stored, one after another.
use Rattle.std.proofs.Common.{◌≡◌, ◌+◌, ◌≤◌, length, take}
use lib.Seq.{sets}
use Rattle.common.proofs.put.Given as goal

abbrev pub invariant-loop-i : goal.invariant-loop-i
invariant-loop-i l =
    (l.at + length l.bytes ≤ length l.fn.buffer) × (l.end ≡ l.at + length l.bytes) × (length l.buffer ≡ length l.fn.buffer)
    × (l.buffer ≡ sets l.fn.buffer l.at (take l.i l.bytes))
