-- The code's own: bytes written into a text where they have room.
use Rattle.std.specs.Prelude.{◌≡◌, List, ◌++◌, ℕ, ◌+◌, ◌≤◌, length}
use Rattle.std.proofs.Common.{◌∙◌, arith, length-append}
use Rattle.common.specs.Storing.{Puts}
use Rattle.common.proofs.Storing.{then-put}

-- bytes written into a text from a place on, where they have room
pub record Writes (before : List ℕ) (at : ℕ) (bytes after : List ℕ) (next : ℕ) : Type 0 where
  pub same_length : length after ≡ length before
  pub put : at + length bytes ≤ length before → Puts before at bytes after next

-- bytes after bytes are written as if they came at once
pub then-write :
    {at next last : ℕ} {before between after a b : List ℕ} →
    Writes before at a between next → Writes between next b after last → Writes before at (a ++ b) after last
then-write {a = a} {b} p q =
    record {
      same_length = q.same_length ∙ p.same_length;
      put =
          λ h.
          let room = simp length-append at h in
          let first = p.put (omega arith) in
          then-put first (q.put (omega (arith, first.place, p.same_length)));
    }
