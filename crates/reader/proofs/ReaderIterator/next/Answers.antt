-- It hands out the first of what it has left.
use Rattle.std.proofs.Common.{rules}
use Rattle.reader.proofs.HandedOut.{nexted}
use Rattle.reader.proofs.ReaderIterator.next.Goals as goal

pub returns-clause-steps : goal.returns-clause-steps
returns-clause-steps c = nexted c.args.self.now.file c.args.self.now.at _ c.advance-found.ensures

pub returns-clause-goes : goal.returns-clause-goes
returns-clause-goes c =
    let steps = (nexted c.args.self.now.file c.args.self.now.at _ c.advance-found.ensures).0 in
    search rules
