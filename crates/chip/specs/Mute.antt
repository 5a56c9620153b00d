-- 02, L13: the host mutes a channel, or has it heard again.
use Rattle.std.specs.Prelude.{Bool, List, ℕ, ltb, set}
use Rattle.common.specs.Answers.{done, nothing_there}
use Rattle.common.specs.Choice.{if}
use Rattle.sound.specs.declared.Channel.{Channel}
use Rattle.sound.specs.Channels.{with_mute}
use Rattle.sound.specs.Line.{channel_of}
use Rattle.chip.specs.declared.Chip.{Chip}
use Rattle.chip.specs.State.{with_channels}

-- there are channels 0, 1 and 2; of the number all 16 bits count
unfoldable pub mute_answer : ℕ → ℕ
mute_answer n = if (ltb n 3) done nothing_there

-- the channels with the mute mark of channel n set or cleared
abbrev pub channels_muted : List Channel → ℕ → Bool → List Channel
channels_muted cs n on = set cs n (with_mute (channel_of cs n) on)

-- the chip after it: nothing else changes
unfoldable pub mute_set : Chip → ℕ → Bool → Chip
mute_set c n on = with_channels c (channels_muted c.sound.channels n on)
