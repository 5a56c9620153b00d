-- The lines, the call and its count are those of the record.
use Rattle.std.proofs.Common.{arith}
use Rattle.replay.specs.Replay.{call_by}
use Rattle.replay.proofs.Counts.{place-small}
use Rattle.replay.proofs.Playing.{one-replayed}
use Rattle.replay.proofs.Lent.record_replayed.Goals as goal

pub refusal_counted-requires : goal.refusal_counted-requires
refusal_counted-requires c =
    (rw (c.called-told.ensures.calls.answer c.args.self.now.ram.now) (place-small _ (call_by c.args.self.now.owners c.args.entry)), c.requires.1)

pub returns-clause-played : goal.returns-clause-played
returns-clause-played c =
    let called = c.called-told.ensures in
    rw called.kept.ram
    (one-replayed c.args.self.now.ram.now c.args.p c.lines_on-chip.ensures called.calls (omega (arith, c.max.ensures)) c.refusal_counted.ensures)
