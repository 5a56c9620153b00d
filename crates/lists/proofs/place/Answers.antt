-- The refusals, each where none before it holds, and the list at the lowest address that is clear.
use Rattle.std.proofs.Common.{length, rules, arith}
use Rattle.lists.specs.Place.{other_length, not_askable, all_placed, no_gap}
use Rattle.lists.proofs.Bounds.{askable-is}
use Rattle.lists.proofs.Placing.{gapless, placed_at}
use Rattle.lists.proofs.place.Goals as goal

pub returns-then-ram-ne-RAM : goal.returns-then-ram-ne-RAM
returns-then-ram-ne-RAM c = other_length c.if-ram-ne-RAM.true

pub returns-then-not-askable : goal.returns-then-not-askable
returns-then-not-askable c = not_askable c.if-ram-ne-RAM.false (search rules)

pub returns-in_default : goal.returns-in_default
returns-in_default c = all_placed c.if-ram-ne-RAM.false (search rules) c.in_default.ensures

pub overflow_cast-bytes : goal.overflow_cast-bytes
overflow_cast-bytes c =
    let f = askable-is c.args.area (length c.args.list.now) (search rules) in
    omega (arith, f.small, f.proper.small)

pub lowest-address-requires : goal.lowest-address-requires
lowest-address-requires c =
    let f = askable-is c.args.area (length c.args.list.now) (search rules) in
    (omega (arith, f.proper.order, f.proper.small), omega (arith, f.small, f.proper.small))

pub overflow_add-address : goal.overflow_add-address
overflow_add-address c =
    let f = askable-is c.args.area (length c.args.list.now) (search rules) in
    omega (arith, f.small, f.proper.small, c.lowest-address.ensures.bound)

pub returns-then-upper-address : goal.returns-then-upper-address
returns-then-upper-address c =
    no_gap c.if-ram-ne-RAM.false (search rules) c.in-Some.ensures (gapless c.lowest-address.ensures (omega arith))

pub place_of-requires : goal.place_of-requires
place_of-requires c =
    let f = askable-is c.args.area (length c.args.list.now) (search rules) in
    (omega (arith, f.proper.small), omega (arith, f.some, f.even))

pub returns : goal.returns
returns c =
    rw (c.with_list.ensures, c.place_of.ensures)
    (placed_at c.if-ram-ne-RAM.false (search rules) c.in-Some.ensures c.lowest-address.ensures (omega arith) c.put.ensures)
