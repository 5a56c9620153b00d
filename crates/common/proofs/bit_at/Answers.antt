-- A number of 32 bits has no bit from 32 on.
use native.Mathlib.Nat.{div-eq_of_lt, lt_of_lt_of_le, pow-le-pow_right}
use Rattle.std.proofs.Common.{◌≡◌, ◌≤◌, ◌<◌, ◌/◌, ◌^◌, ℕ, false, refl, sym, arith, rules}
use Rattle.common.specs.Choice.{bit}
use Rattle.common.proofs.bit_at.Goals as goal

high_bit : (n x : ℕ) → 32 ≤ n → x < 2 ^ 32 → bit n x ≡ false
high_bit n x high small =
    let none : x / 2 ^ n ≡ 0 = div-eq_of_lt (lt_of_lt_of_le small (pow-le-pow_right (omega arith) high)) in
    rw none refl

pub returns-then-n-ge32 : goal.returns-then-n-ge32
returns-then-n-ge32 c = sym (high_bit c.args.n c.args.x (search rules) (search rules))
