-- Requests L8, L9 and L12: what replay promises.
use Rattle.std.specs.Prelude.{◌≡◌, List, ℕ, eqb, length}
use Rattle.common.specs.Answers.{done, wrong_length, bad_record, served}
use Rattle.common.specs.Choice.{if, both}
use Rattle.common.specs.Sizes.{ram_bytes, store_bytes}
use Rattle.editors.specs.declared.Owners.{Owners}
use Rattle.lists.specs.Area.{no_lists}
use Rattle.chip.specs.Editors.{lists_of}
use Rattle.take.specs.Record.{first_bad}
use Rattle.take.specs.Open.{open_answer, records_of}
use Rattle.runs.specs.World.{World}
use Rattle.runs.specs.Run.{Made}
use Rattle.replay.specs.declared.Replayed.{Replayed}
use Rattle.replay.specs.Replay.{Progress, fresh, replayed}
use Rattle.replay.specs.ByHand.{ByHand, AsByHand}

-- RAM has 65,536 bytes and the store 4,096; then the take is opened, whole, before anything is played
unfoldable pub replay_answer : List ℕ → List ℕ → List ℕ → ℕ
replay_answer ram store file =
    if (both (eqb (length ram) ram_bytes) (eqb (length store) store_bytes)) (open_answer file) wrong_length

-- where it is served all records are played from reset; where it is refused nothing is
unfoldable pub outcome : List ℕ → List ℕ → List ℕ → List ℕ → Owners → List ℕ → Progress
outcome ram store song picture o file =
    let at-reset = fresh ram store song picture in
    served (replay_answer ram store file) (replayed o at-reset (records_of file)) at-reset

-- a take has no call on lists, so that the chip has no area; and where it is served, what making the calls by hand gives
pub record Replays (ram store song picture : List ℕ) (o : Owners) (file store' song' picture' : List ℕ) (r : Replayed) : Type 0 where
  pub answer : r.answer ≡ replay_answer ram store file
  pub bad : r.bad ≡ if (eqb (replay_answer ram store file) bad_record) (first_bad (records_of file)) 0
  pub chip : r.chip ≡ (outcome ram store song picture o file).world.chip
  pub lines : r.lines ≡ (outcome ram store song picture o file).lines
  pub counts : r.counts ≡ (outcome ram store song picture o file).counts
  pub store-after : store' ≡ (outcome ram store song picture o file).world.lent.store
  pub song-after : song' ≡ (outcome ram store song picture o file).world.lent.song
  pub picture-after : picture' ≡ (outcome ram store song picture o file).world.lent.picture
  pub no_area : lists_of r.chip ≡ no_lists
  pub by_hand :
      r.answer ≡ done → (log : List Made) (w : World) → ByHand ram store song picture o (records_of file) log w →
      AsByHand log w store' song' picture' r
