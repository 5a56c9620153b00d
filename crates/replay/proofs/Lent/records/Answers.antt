-- The reader hands out the next record, which is played, or none where none is left.
use Rattle.replay.proofs.Playing.{starts, ends, room-left, goes_on, kept-on}
use Rattle.replay.proofs.Lent.records.Goals as goal
use Rattle.std.proofs.Common.{refl}

pub loop-entry-init : goal.loop-entry-init
loop-entry-init c =
    let l = c.args.self.now in
    let b = c.begun-p.ensures in (
      record { ram = refl; owners = refl; store = refl; song = refl; picture = refl },
      rw (b.chip, b.number, b.none)
          (starts l.ram.now l.store.now l.song.now l.picture.now l.owners c.requires.0 c.requires.1
          (rw c.into_iter-entry-iterator.ensures.into_iter_gives c.over-entry-items.ensures.left)),
    )

pub record_replayed-p-requires : goal.record_replayed-p-requires
record_replayed-p-requires c =
    let s = c.loop-entry.invariant.1 in
    (s.full, room-left s c.in-Some.ensures.steps.0)

pub loop-entry-preserved : goal.loop-entry-preserved
loop-entry-preserved c =
    let l = c.loop-entry.invariant in
    let p = c.record_replayed-p.ensures in (
      kept-on l.0 p.kept,
      goes_on l.1 c.in-Some.ensures.steps.0 (rw l.0.owners at p.played) (rw p.kept.ram l.1.full),
    )

pub returns-clause-played : goal.returns-clause-played
returns-clause-played c = ends c.loop-entry.invariant.1 c.in-None.ensures.steps.0.0
