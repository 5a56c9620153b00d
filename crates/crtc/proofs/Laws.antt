-- Laws of the registers that are kept.
use Prim.Native.Nat.{ℕ}
use mathlib.Core.Bool.{true, false, true≢false}
use mathlib.Core.Path.{◌≡◌, refl, ap}
use lib.Dec.{eqb}
use borrow.Author.Tests.{ne_eqb}
use Rattle.crtc.specs.Registers.{has_register, written}
use Rattle.crtc.specs.declared.Registers.{Registers}

-- a number that is not kept differs from one that is
differs : (n k : ℕ) → has_register n ≡ false → has_register k ≡ true → eqb n k ≡ false
differs n k h t = ne_eqb n k (λ e. true≢false (cc (ap has_register e)))

-- a data write to a register that is not kept changes nothing
pub register_kept : (r : Registers) (n b : ℕ) → has_register n ≡ false → written r n b ≡ r
unfolding has_register written
register_kept r n b h =
    simp (
      differs n 1 h refl,
      differs n 4 h refl,
      differs n 5 h refl,
      differs n 6 h refl,
      differs n 9 h refl,
      differs n 12 h refl,
      differs n 13 h refl,
    )
