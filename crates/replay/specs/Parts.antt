-- Serves only the code's own parts, in the contracts of private functions. No public promise cites it.
use Rattle.std.specs.Prelude.{◌≡◌, Bool, List, [], ◌∷◌, ℕ, zero, suc, ◌+◌, ◌-◌, ◌^◌, ◌<◌, get_or}
use Rattle.common.specs.Answers.{done}
use Rattle.editors.specs.declared.Owners.{Owners}
use Rattle.sound.specs.declared.Sound.{Sound}
use Rattle.chip.specs.declared.Crtc.{Crtc}
use Rattle.chip.specs.declared.Chip.{Chip}
use Rattle.chip.specs.declared.Answered.{Answered}
use Rattle.chip.specs.State.{with_sound, with_crtc, with_raster}
use Rattle.chip.specs.Reset.{reset_chip}
use Rattle.chip.specs.Step.{stepped}
use Rattle.runs.specs.World.{World, with_chip, world_of}
use Rattle.runs.specs.Call.{Call, answer_to}
use Rattle.runs.specs.Run.{world_over}
use Rattle.take.specs.declared.Record.{Record}
use Rattle.take.specs.Open.{open_answer, count_of}
use Rattle.replay.specs.declared.Lent.{Lent}
use Rattle.replay.specs.declared.Player.{Player}
use Rattle.replay.specs.declared.Replayed.{Replayed}
use Rattle.replay.specs.Replay.{Progress, no_counts, call_by, later, refusal_counted}

-- how far a replay is, with the lent buffers
abbrev pub progress_by : Player → List ℕ → List ℕ → List ℕ → List ℕ → Progress
progress_by p ram store song picture =
    record { world = world_of p.chip ram store song picture []; lines = p.lines; counts = p.counts }

abbrev pub progress_of : Player → Lent → Progress
progress_of p l = progress_by p l.ram.now l.store.now l.song.now l.picture.now

-- the same RAM, owners and buffers are lent
pub record Kept (l k : Lent) : Type 0 where
  pub ram : k.ram ≡ l.ram
  pub owners : k.owners ≡ l.owners
  pub store : k.store.ghost_name ≡ l.store.ghost_name
  pub song : k.song.ghost_name ≡ l.song.ghost_name
  pub picture : k.picture.ghost_name ≡ l.picture.ghost_name

-- a chip with what lines move
abbrev pub moved : Chip → Sound → Crtc → Bool → Chip
moved c s k raster = with_raster (with_crtc (with_sound c s) k) raster

-- so many line steps, on RAM that is whole
unfoldable pub lines_on : List ℕ → ℕ → Chip → Chip
lines_on ram zero c = c
lines_on ram (suc n) c = lines_on ram n (stepped ram c)

-- the answer to the call of a record; what is no call is done
abbrev pub answer_in : World → List Call → ℕ
answer_in w [] = done
answer_in w (c ∷ cs) = answer_to w c

-- one record: its line is reached, then its call is made
unfoldable pub record_replayed : Owners → Progress → Record → Progress
record_replayed o p r =
    let w = with_chip p.world (lines_on p.world.lent.ram (r.line - p.lines) p.world.chip) in
    record {
      world = world_over w (call_by o r);
      lines = later p.lines r.line;
      counts = refusal_counted p.counts (answer_in w (call_by o r));
    }

-- no count is at its type's end
pub record Room (counts : List ℕ) : Type 0 where
  pub each : (i : ℕ) → get_or counts i 0 + 1 < 2 ^ 32

-- the call of a record made, whatever RAM there is
pub record Calls (c : Chip) (store song picture : List ℕ) (o : Owners) (r : Record) (store' song' picture' : List ℕ) (a : Answered) : Type 0 where
  pub answer : (ram : List ℕ) → a.answer ≡ answer_in (world_of c ram store song picture []) (call_by o r)
  pub world :
      (ram : List ℕ) → world_of a.chip ram store' song' picture' [] ≡ world_over (world_of c ram store song picture []) (call_by o r)

-- a take that opens; its count is a number of 4 bytes
pub record Opened (file : List ℕ) : Type 0 where
  pub opens : open_answer file ≡ 0
  pub count : count_of file < 2 ^ 32

-- nothing is played yet
pub record Begun (c : Chip) (lines : ℕ) (counts : List ℕ) : Type 0 where
  pub chip : c ≡ reset_chip
  pub number : lines ≡ 0
  pub none : counts ≡ no_counts

-- the answer, and how far the replay is
pub record Tells (number first : ℕ) (p : Player) (r : Replayed) : Type 0 where
  pub answer : r.answer ≡ number
  pub bad : r.bad ≡ first
  pub chip : r.chip ≡ p.chip
  pub lines : r.lines ≡ p.lines
  pub counts : r.counts ≡ p.counts
