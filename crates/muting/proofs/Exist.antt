-- The claim is not empty: from any world, with a channel muted or heard again on a second one, any calls that lend no short places have two
-- such runs.
use mathlib.Core.Path.{◌≡◌, refl, ap}
use mathlib.Core.Bool.{Bool}
use mathlib.Core.List.{List, [], ◌∷◌}
use Prim.Native.Nat.{ℕ}
use lib.ListN.{length-set}
use lib.Seq.{get_or-set_other}
use Rattle.common.proofs.Lists.{after-set}
use Rattle.sound.specs.declared.Channel.{Channel}
use Rattle.sound.specs.Channels.{with_mute}
use Rattle.sound.specs.Line.{off_channel, channel_of}
use Rattle.chip.specs.Mute.{mute_set}
use Rattle.runs.specs.World.{World, with_chip}
use Rattle.runs.specs.Call.{Call}
use Rattle.runs.specs.Run.{Run, made_over, world_over}
use Rattle.runs.specs.Pair.{Beside, ended, both}
use Rattle.runs.proofs.Calls.{AllPlaces}
use Rattle.runs.proofs.Runs.{AllWhole, run-possible}
use Rattle.muting.specs.Muting.{channel_in, SameBut, NoCall}

abbrev muted : World → ℕ → Bool → World
muted w k m = with_chip w (mute_set w.chip k m)

mute_pair : (w : World) (k : ℕ) (m : Bool) → SameBut k w (muted w k m)
unfolding mute_set
mute_pair w k m =
    let cs = w.chip.sound.channels in
    record {
      chip-rest = refl;
      lent = refl;
      count = length-set cs k (with_mute (channel_of cs k) m);
      channel =
          λ n.
          after-set (λ d. d ≡ with_mute (channel_in w n) d.muted) cs k n (with_mute (channel_of cs k) m) off_channel refl (λ e. rw e refl);
      marks = λ n o. ap (λ (d : Channel). d.muted) (get_or-set_other cs k n (with_mute (channel_of cs k) m) off_channel o);
    }

same-calls : (cs : List Call) (w v : World) → Beside NoCall (made_over w cs) (made_over v cs)
same-calls [] w v = ended
same-calls (c ∷ cs) w v = both refl (same-calls cs _ _)

pub record TwoRuns (w : World) (k : ℕ) (m : Bool) (cs : List Call) : Type 0 where
  pub begin : SameBut k w (muted w k m)
  pub first_run : Run w (made_over w cs) (world_over w cs)
  pub second_run : Run (muted w k m) (made_over (muted w k m) cs) (world_over (muted w k m) cs)
  pub same : Beside NoCall (made_over w cs) (made_over (muted w k m) cs)

pub two_runs : (w : World) (k : ℕ) (m : Bool) (cs : List Call) → AllPlaces w → AllWhole cs → TwoRuns w k m cs
two_runs w k m cs places whole =
    record {
      begin = mute_pair w k m;
      first_run = run-possible cs w places whole;
      second_run = run-possible cs (muted w k m) places whole;
      same = same-calls cs w (muted w k m);
    }
