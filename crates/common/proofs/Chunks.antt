-- The chunks that a list is taken as.
use mathlib.Core.Path.{◌≡◌, ap, ◌∙◌}
use mathlib.Core.List.{List, []}
use Prim.Native.Nat.{ℕ, zero, suc, ◌+◌, ◌*◌, ◌<◌}
use native.Mathlib.Omega.{arith}
use lib.ListN.{get_or, take, drop}
use Rattle.std.specs.Simd.{first_chunks}
use Rattle.std.proofs.lemmas.List.{drop-drop}

-- chunk number i of k, each of n elements
pub chunk-at : (n k : ℕ) (xs : List ℕ) (i : ℕ) → i < k → get_or (first_chunks n k xs) i [] ≡ take n (drop (i * n) xs)
chunk-at n zero xs i h = absurd (omega arith)
chunk-at n (suc k) xs zero h = let e : 0 * n ≡ 0 = omega arith in rw e
chunk-at n (suc k) xs (suc i) h =
    let e : n + i * n ≡ suc i * n = omega arith in
    chunk-at n k (drop n xs) i (omega arith) ∙ ap (take n) (rw (drop-drop, e))
