-- A handle that has a list is below 64, and its bit is 1.
use Rattle.std.proofs.Common.{rules}
use Rattle.lists.proofs.Bounds.{taken_is}
use Rattle.lists.proofs.remove.Goals as goal

pub without_list-requires : goal.without_list-requires
without_list-requires c = taken_is c.args.area c.args.handle (search rules)
