-- A number of 64 ones has no 0, and any other has its lowest 0 above its lowest ones.
use Rattle.std.proofs.Common.{◌≡◌, ◌+◌, ◌-◌, ◌^◌, ◌<◌, ap, ◌∙◌, eqb, arith, w64}
use Rattle.std.proofs.lemmas.Nat.Bits.{bit_at_ones, bit_at-trailing_ones}
use Rattle.std.specs.Int.{bit_at}
use Rattle.lists.proofs.Area.free_handle.Goals as goal

pub returns-then-self-eq18446744073709551615 : goal.returns-then-self-eq18446744073709551615
returns-then-self-eq18446744073709551615 c k h =
    let full : c.args.self.used ≡ 2 ^ 64 - 1 = c.if-self-eq18446744073709551615.true in
    ap (λ n. eqb n 1) (ap (λ x. bit_at x k) full ∙ bit_at_ones 64 k h)

pub returns : goal.returns
returns c =
    let room : c.args.self.used + 1 < 2 ^ 64 = omega arith in
    let lowest = bit_at-trailing_ones w64 c.args.self.used room in
    rw c.trailing_ones.ensures (record { below = lowest.0; free = ap (λ n. eqb n 1) lowest.1; lowest = λ k h. ap (λ n. eqb n 1) (lowest.2 k h) })
