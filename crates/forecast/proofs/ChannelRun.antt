-- A run as one channel sees it: lines, and calls that left the channel alone.
use mathlib.Core.Path.{◌≡◌}
use mathlib.Core.List.{List, [], ◌∷◌}
use Prim.Native.Nat.{ℕ}
use Rattle.sound.specs.declared.Channel.{Channel}
use Rattle.sound.specs.declared.Did.{Did}
use Rattle.sound.specs.Line.{channel_after, did_on}
use Rattle.chip.specs.Channels.{Aside}
use Rattle.forecast.specs.Demand.{Lent}

-- a run as one channel sees it, with its reports over the served lines
pub data ChannelRun (ram : List ℕ) (start : ℕ) : Channel → List Did → Type 0 where
  ended : {c : Channel} → ChannelRun ram start c []
  aside : {c d : Channel} {ds : List Did} → Aside c d → ChannelRun ram start d ds → ChannelRun ram start c ds
  line :
      {c d : Channel} {r : Did} {ds : List Did} (lent : List ℕ) →
      Lent ram start lent → d ≡ channel_after lent c → r ≡ did_on lent c → ChannelRun ram start d ds → ChannelRun ram start c (r ∷ ds)
