-- Laws of bytes stored in a buffer.
use mathlib.Core.Path.{◌≡◌}
use mathlib.Core.List.{List, ◌++◌}
use Prim.Native.Nat.{ℕ, ◌+◌, ◌<◌, ◌≤◌}
use native.Mathlib.Numerals.{add-one}
use native.Mathlib.Omega.{arith}
use lib.ListN.{length, take, set, get_or, length-append}
use lib.Seq.{sets, take-suc, length-take-le}
use borrow.Author.Tests.{le-leb, lt-leb}
use Rattle.common.specs.Storing.{Puts, PutsIfRoom}
use Rattle.common.proofs.Lists.{sets-append}

-- one more of some that are stored one by one
pub put-more :
    (l buffer bytes : List ℕ) (at i : ℕ) →
    i < length bytes →
    buffer ≡ sets l at (take i bytes) →
    set buffer (at + i) (get_or bytes i 0) ≡ sets l at (take (i + 1) bytes)
put-more l buffer bytes at i h e =
    let n : length (take i bytes) ≡ i = length-take-le i bytes (omega arith) in
    rw (e, add-one, take-suc bytes i 0, ← sets-append, n)

-- bytes after bytes
pub then-put :
    {at next last : ℕ} {before between after bytes more : List ℕ} →
    Puts before at bytes between next →
    Puts between next more after last →
    Puts before at (bytes ++ more) after last
then-put p q =
    record {
      place = simp length-append (omega (arith, p.place, q.place));
      stored = simp (q.stored, p.stored, p.place, sets-append);
    }

-- by the room: none is stored, or all are
pub no_room : (before : List ℕ) (at : ℕ) (bytes : List ℕ) → length before < at + length bytes → PutsIfRoom before at bytes before at
no_room before at bytes h = let t = lt-leb (at + length bytes) (length before) h in record { place = simp t; stored = simp t }

module _ {before bytes after : List ℕ} {at next : ℕ} where
  pub in_room : Puts before at bytes after next → at + length bytes ≤ length before → PutsIfRoom before at bytes after next
  in_room p h = let t = le-leb (at + length bytes) (length before) h in record { place = simp t p.place; stored = simp t p.stored }

  pub had-room : PutsIfRoom before at bytes after next → at + length bytes ≤ length before → Puts before at bytes after next
  had-room p h = let t = le-leb (at + length bytes) (length before) h in record { place = simp t at p.place; stored = simp t at p.stored }
