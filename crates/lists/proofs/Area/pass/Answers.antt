-- One handle more: with a list, that list is passed; with none, nothing moves. And no handle above the highest has one.
use Rattle.std.proofs.Common.{◌≡◌, ◌-◌, ◌<◌, ◌≤◌, true, false, arith, rules, subst, eq-eqb, ne_eqb, get_or-take, length-take}
use Rattle.std.specs.Int.Count.{count_leading_zeros}
use Rattle.common.specs.Choice.{bit}
use Rattle.lists.proofs.Bits.{none_above}
use Rattle.lists.proofs.Room.{passed-more, passed-rest}
use Rattle.lists.proofs.Area.pass.Goals as goal
use Rattle.lists.proofs.Area.pass.Goals.{then-self-k-eq1, else-self-k-eq1}

pub loop-k-preserved : goal.loop-k-preserved
loop-k-preserved c =
    let n = c.loop-k.k in
    let used = c.args.self.used in
    let places = c.args.places.now in
    let inside : n < 64 - count_leading_zeros 64 used = omega (arith, length-take (64 - count_leading_zeros 64 used) places) in
    elim c.if-self-k-eq1.branch [
      | then-self-k-eq1 w ↦
          let on : bit n used ≡ true = eq-eqb _ _ w.if-self-k-eq1.true in
          rw w.at-is (passed-more (omega arith) on c.loop-k.invariant (rw get_or-take at w.past-at.ensures))
      | else-self-k-eq1 w ↦
          let off : bit n used ≡ false = ne_eqb _ _ w.if-self-k-eq1.false in
          rw w.at-is (passed-rest (λ k g h. subst (λ j. bit j used ≡ false) (omega arith) off) c.loop-k.invariant)
    ]

pub returns : goal.returns
returns c =
    let end = 64 - count_leading_zeros 64 c.args.self.used in
    let seen : end ≤ c.loop-k.k = omega (arith, length-take end c.args.places.now) in
    passed-rest (λ k g h. none_above _ (search rules) k (omega arith)) c.loop-k.invariant
