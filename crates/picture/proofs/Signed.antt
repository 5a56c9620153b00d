-- Signed coordinates in 16 bits, and the difference of a number less a larger one.
use mathlib.Core.Path.{◌≡◌}
use Prim.Native.Nat.{◌<◌}
use lib.IntN.{ℤ}
use lib.Signed.{mag}
use mir.Syntax.{w16}
use mir.Val.{to_z, of_z}
use mir.Facts.{to_z-of_z}

-- the number that z's bits are is z
pub again : (z : ℤ) → mag z < 32768 → to_z w16 (of_z w16 z) ≡ z
again z h = to_z-of_z {w = w16} (record { sfits = h })
