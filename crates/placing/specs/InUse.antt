-- 02, L12: a list that one of the three channels has in use.
use Rattle.std.specs.Prelude.{Bool, ℕ}
use Rattle.common.specs.Choice.{both, either}
use Rattle.lists.specs.Room.{start_of, end_of}
use Rattle.lists.specs.InUse.{uses}
use Rattle.sound.specs.declared.Channel.{Channel}
use Rattle.sound.specs.declared.Sound.{Sound}
use Rattle.sound.specs.Line.{channel_of}

-- a channel has the list at a place in use: it is enabled, and its address, its mark or a word between says so
abbrev pub used_by : Channel → ℕ → Bool
used_by d place = both d.enabled (uses (start_of place) (end_of place) d.address d.mark d.counter)

-- one of them has
unfoldable pub in_use_of : Sound → ℕ → Bool
in_use_of s place =
    either (used_by (channel_of s.channels 0) place)
    (either (used_by (channel_of s.channels 1) place) (used_by (channel_of s.channels 2) place))
