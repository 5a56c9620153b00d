-- A free bit set: the number stays below 2 ^ 64.
use Rattle.std.proofs.Common.{◌^◌, ◌<◌, rules, mod-eq_of_lt}
use Rattle.std.proofs.Math.Nat.{one-mul}
use Rattle.std.proofs.Math.Pow.{pow-lt}
use Rattle.lists.proofs.Bits.{more-fits}
use Rattle.lists.proofs.Area.with_list.Goals as goal

pub overflow_add-result : goal.overflow_add-result
overflow_add-result c =
    let h = c.args.handle in
    let below : 2 ^ h < 2 ^ 64 = pow-lt c.requires.0 in
    rw (one-mul, mod-eq_of_lt below) (record { fits = more-fits h _ c.requires.0 (search rules) c.requires.1 })
