-- The same is lent, and what the reader has left comes to the whole.
use Rattle.take.specs.Open.{records_of}
use Rattle.reader.specs.Reader.{records_left}
use Rattle.replay.specs.Replay.{fresh, replayed}
use Rattle.replay.specs.Parts.{progress_of, Kept}
use Rattle.replay.proofs.Playing.{Playing}
use Rattle.replay.proofs.Lent.records.Given as goal

abbrev pub invariant-loop-entry : goal.invariant-loop-entry
invariant-loop-entry l =
    let lent = l.fn.self in
    Kept lent l.self
    × Playing lent.owners (replayed lent.owners (fresh lent.ram.now lent.store.now lent.song.now lent.picture.now) (records_of l.file))
    (progress_of l.p l.self) (records_left l.entry-iterator)
