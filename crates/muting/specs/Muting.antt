-- 02, L13: the same calls with a channel muted and not muted. Nothing differs but that mute mark and the PSG.
use Rattle.std.specs.Prelude.{◌≡◌, Bool, List, ℕ, length}
use Rattle.common.specs.Answers.{done}
use Rattle.sound.specs.declared.Channel.{Channel}
use Rattle.sound.specs.Channels.{with_mute}
use Rattle.sound.specs.Line.{channel_of, channel_after, did_on, psg_after}
use Rattle.chip.specs.State.{with_sound}
use Rattle.runs.specs.World.{World}
use Rattle.runs.specs.Call.{Call}
use Rattle.runs.specs.Sort.{on_line}
use Rattle.runs.specs.Run.{Made, Run, Each}
use Rattle.runs.specs.Pair.{Beside, SameReplies, Throughout}
use Rattle.forecast.specs.Demand.{report_in}

-- ---- two worlds

abbrev pub channel_in : World → ℕ → Channel
channel_in w n = channel_of w.chip.sound.channels n

-- the same but for channel k's mute mark and the PSG: all of the chip but its sound, the lent buffers, each channel but for its mute mark,
-- and the mute marks of the other channels
pub record SameBut (k : ℕ) (w v : World) : Type 0 where
  pub chip-rest : v.chip ≡ with_sound w.chip v.chip.sound
  pub lent : v.lent ≡ w.lent
  pub count : length v.chip.sound.channels ≡ length w.chip.sound.channels
  pub channel : (n : ℕ) → channel_in v n ≡ with_mute (channel_in w n) (channel_in v n).muted
  pub marks : (n : ℕ) → (n ≡ k → ⊥) → (channel_in v n).muted ≡ (channel_in w n).muted

-- ---- two runs of the same calls

abbrev pub NoCall : Call → Type 0
NoCall c = ⊥

abbrev pub AnyCall : Call → Type 0
AnyCall c = Unit {0}

-- every call gets the same reply, a line's report and cycles with it, and after every call the worlds are the same but for these two
pub record MovesNothing (k : ℕ) (w v : World) {es fs : List Made} (b : Beside NoCall es fs) : Type 0 where
  pub replies : SameReplies AnyCall b
  pub throughout : Throughout (SameBut k) w v b

-- ---- the PSG: after a line it is what the LOADs of the channels not muted make of it, in order 0, 1, 2, by the line's own report
abbrev pub Heard : Made → Type 0
Heard e =
    e.reply.answer ≡ done →
    on_line
    (λ a.
    e.after.chip.sound.psg
    ≡ psg_after e.before.chip.sound.psg e.before.chip.sound.channels (report_in e.reply.told).entries)
    (Unit {0}) e.asks

-- ---- what a channel does on a line does not depend on its mute mark, which stays
pub record MarkApart (ram : List ℕ) (c : Channel) (muted : Bool) : Type 0 where
  pub did : did_on ram (with_mute c muted) ≡ did_on ram c
  pub after : channel_after ram (with_mute c muted) ≡ with_mute (channel_after ram c) muted

-- ---- the claim
pub record Muting : Type 0 where
  pub apart : (ram : List ℕ) (c : Channel) (muted : Bool) → MarkApart ram c muted
  pub moves-nothing :
      (k : ℕ) {w v x y : World} {es fs : List Made} → SameBut k w v → Run w es x → Run v fs y → (b : Beside NoCall es fs) → MovesNothing k w v b
  pub heard : {w x : World} {es : List Made} → Run w es x → Each Heard es
