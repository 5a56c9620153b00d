-- Requests L8 and L9: the calls of a take made by hand, one after the other, each known by its contract alone, as a caller learns it.
use Rattle.std.specs.Prelude.{◌≡◌, List, ℕ}
use Rattle.editors.specs.declared.Owners.{Owners}
use Rattle.chip.specs.Reset.{Reset}
use Rattle.take.specs.declared.Record.{Record}
use Rattle.runs.specs.World.{World, world_of}
use Rattle.runs.specs.Run.{Made, Run, calls_of}
use Rattle.replay.specs.declared.Replayed.{Replayed}
use Rattle.replay.specs.Replay.{calls_from, no_counts, lines_over, counts_over}

-- from a chip that reset gives, with these buffers lent, and any places of lists; every start gives these owners
pub record ByHand (ram store song picture : List ℕ) (o : Owners) (rs : List Record) (log : List Made) (w : World) : Type 0 where
  pub start : World
  pub fresh : Reset start.chip
  pub lent : start ≡ world_of start.chip ram store song picture start.lent.slots
  pub run : Run start log w
  pub calls : calls_of log ≡ calls_from o 0 rs

-- replay gives the chip, the buffers, the lines and the counts that they end with
pub record AsByHand (log : List Made) (w : World) (store' song' picture' : List ℕ) (r : Replayed) : Type 0 where
  pub chip : r.chip ≡ w.chip
  pub lines : r.lines ≡ lines_over 0 log
  pub counts : r.counts ≡ counts_over no_counts log
  pub store-after : store' ≡ w.lent.store
  pub song-after : song' ≡ w.lent.song
  pub picture-after : picture' ≡ w.lent.picture
