-- 02, L13: the mute marks are written by mute alone, among the calls of a run.
use mathlib.Core.Path.{◌≡◌, refl, ap}
use mathlib.Core.Bool.{Bool, true, false}
use mathlib.Core.List.{List}
use Prim.Native.Nat.{ℕ, zero, suc, ◌<◌}
use native.Mathlib.Omega.{arith}
use borrow.Author.Tests.{eqb-true, eqb-false}
use lib.Dec.{eqb}
use lib.ListN.{length}
use lib.Seq.{get_or-set_same, get_or-set_other}
use Rattle.common.specs.Choice.{if}
use Rattle.sound.specs.declared.Channel.{Channel}
use Rattle.sound.specs.Channels.{with_mute}
use Rattle.sound.specs.Line.{off_channel, channel_of, channels_after, sound_after}
use Rattle.sound.proofs.Muting.{mark-stays}
use Rattle.chip.specs.declared.Chip.{Chip}
use Rattle.chip.specs.Ports.{selected, data_written, gate_written}
use Rattle.chip.specs.Editors.{started}
use Rattle.chip.specs.Mute.{channels_muted}
use Rattle.chip.specs.Step.{stepped as stepped_chip, counters_stepped}
use Rattle.chip.proofs.ChannelLaws.{acknowledge_mutes}
use Rattle.registers.specs.Address.{register_at}
use Rattle.registers.proofs.ChannelWrites.{page_mutes}
use Rattle.page.specs.UndoRecord.{entry_address, entry_contents}
use Rattle.page.specs.Page.{page_written}
use Rattle.page.specs.Undo.{undone}
use Rattle.runs.specs.World.{World, muted_of}
use Rattle.runs.specs.Call.{Call, bc, bd, gate, read, write, undo, ack, line, step, start, area, place, remove, mute, lend, served_world}
use Rattle.runs.proofs.Views.{newest_of}

-- the marks after a channel is muted or heard again
pub mark_set :
    (cs : List Channel) (k : ℕ) (on : Bool) (n : ℕ) → length cs ≡ 3 → k < 3 →
    (channel_of (channels_muted cs k on) n).muted ≡ if (eqb n k) on (channel_of cs n).muted
mark_set cs k on n three below = go (eqb n k) refl
  where
    go : (t : Bool) → eqb n k ≡ t → (channel_of (channels_muted cs k on) n).muted ≡ if t on (channel_of cs n).muted
    go true e =
        rw (eqb-true n k e) (ap (λ (c : Channel). c.muted) (get_or-set_same cs k (with_mute (channel_of cs k) on) off_channel (omega (arith, three))))
    go false e = ap (λ (c : Channel). c.muted) (get_or-set_other cs k n (with_mute (channel_of cs k) on) off_channel (eqb-false n k e))

-- a call mutes a channel or has it heard, or leaves the marks
pub data MuteView : Call → Type 0 where
  mutes : (n : ℕ) (on : Bool) → MuteView (mute n on)
  stays : {c : Call} → ((w : World) (n : ℕ) → n < 3 → muted_of (served_world w c) n ≡ muted_of w n) → MuteView c

lines_leave : (ram : List ℕ) (c : Chip) (n : ℕ) → n < 3 → (channel_of (channels_after ram c.sound.channels) n).muted ≡ (channel_of c.sound.channels n).muted
lines_leave ram c zero h = mark-stays ram (channel_of c.sound.channels 0)
lines_leave ram c (suc zero) h = mark-stays ram (channel_of c.sound.channels 1)
lines_leave ram c (suc (suc zero)) h = mark-stays ram (channel_of c.sound.channels 2)
lines_leave ram c (suc (suc (suc n))) h = absurd (omega arith)

pub mute-view : (c : Call) → MuteView c
unfolding selected data_written gate_written page_written undone stepped_chip counters_stepped sound_after started
mute-view (bc b) = stays (λ w n h. refl)
mute-view (bd b) = stays (λ w n h. refl)
mute-view (gate b) = stays (λ w n h. refl)
mute-view (read e a bus) = stays (λ w n h. refl)
mute-view (write e a b) = stays (λ w. page_mutes w.chip e (register_at a) b)
mute-view (undo e) = stays (λ w. page_mutes w.chip e (register_at (entry_address (newest_of w e))) (entry_contents (newest_of w e)))
mute-view ack = stays (λ w n h. acknowledge_mutes w.chip n)
mute-view (line a n) = stays (λ w. lines_leave w.lent.ram w.chip)
mute-view (step a) = stays (λ w. lines_leave w.lent.ram w.chip)
mute-view (start o) = stays (λ w n h. refl)
mute-view (area from upto) = stays (λ w n h. refl)
mute-view (place list) = stays (λ w n h. refl)
mute-view (remove handle) = stays (λ w n h. refl)
mute-view (mute n on) = mutes n on
mute-view (lend l) = stays (λ w n h. refl)
