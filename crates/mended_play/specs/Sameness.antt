-- 02, L10: what mending promises of how the words play: from a fresh channel, on RAM that has the words in use and on RAM that has the
-- mended words, what lies elsewhere in RAM being free.
use Rattle.std.specs.Prelude.{◌≡◌, true, false, List, [], ◌∷◌, ℕ, ◌+◌, ◌*◌, ◌%◌, ◌<◌, ◌≤◌, length}
use Rattle.common.specs.Answers.{done}
use Rattle.common.specs.Sizes.{ram_bytes}
use Rattle.words.specs.Words.{has_stop}
use Rattle.sound.specs.declared.Access.{Access}
use Rattle.sound.specs.declared.Channel.{Channel}
use Rattle.runs.specs.World.{World}
use Rattle.runs.specs.Sort.{on_line}
use Rattle.runs.specs.Run.{Made, Run, Each}
use Rattle.forecast.specs.Rule.{Has, lines_forecast, cycles_meeting, answer_of}
use Rattle.forecast.specs.Demand.{channel}
use Rattle.forecast.specs.Played.{Line, played_in}
use Rattle.mended_play.specs.Play.{played_on, SamePlay, KeepsTo, StopsAfter}

-- ---- a fresh channel: enabled, at the start, with no loop; prescale, mark and interrupt are free, and so are pause and line count, since
-- the lines of a pause that still runs come before both plays alike. Its mute mark is free too (02, L13), but the same in both plays: of a
-- muted channel the PSG gets nothing in either, and where one alone is muted it differs (`needs-same-mark`)
pub record Fresh (start : ℕ) (c : Channel) : Type 0 where
  pub enabled : c.enabled ≡ true
  pub address : c.address ≡ start
  pub counter : c.counter ≡ 0

-- words at a start end before the end of RAM; of the mended ones the added STOP is one
abbrev pub Fits : List ℕ → ℕ → Type 0
Fits words start = start + length words * 2 ≤ ram_bytes

-- each of these RAMs has the words at the start
abbrev pub AllHave : ℕ → List ℕ → List (List ℕ) → Type 0
AllHave start words [] = Unit {0}
AllHave start words (ram ∷ rams) = Has ram start words × AllHave start words rams

-- ---- the plays of the old words and of the mended ones. Where a STOP is among the old words and they fit, nothing is executed before it
-- but those words. Where none is, the play of the old words can leave them, and the mended ones stop just there
pub record Plays (words mended : List ℕ) (start : ℕ) (old new : List Line) : Type 0 where
  pub same : SamePlay start (length words) old new
  pub keeps : has_stop words ≡ true → Fits mended start → KeepsTo start (length words) old
  pub ends : has_stop words ≡ false → Fits mended start → StopsAfter start (length words) old new

-- ---- over runs of calls: a served line step is lent RAM that has these words at the start, and a served call between the lines leaves
-- channel n as it is, its mute mark with it
abbrev pub Lends : ℕ → ℕ → List ℕ → Made → Type 0
Lends n start words e =
    e.reply.answer ≡ done →
    on_line (λ a. Has e.before.lent.ram start words) (channel e.after.chip n ≡ channel e.before.chip n) e.asks

-- ---- the forecasts of a list on two RAMs are both served and the same: lines at every prescale, and the cycles whatever each LOAD meets,
-- so the least and the most
pub record SameForecast (old mended : List ℕ) (start : ℕ) : Type 0 where
  pub old-served : answer_of old start ≡ done
  pub mended-served : answer_of mended start ≡ done
  pub lines : (prescale : ℕ) → lines_forecast mended start prescale ≡ lines_forecast old start prescale
  pub cycles : (a : Access) → cycles_meeting a mended start ≡ cycles_meeting a old start

-- ---- the claim for words and what mending makes of them: by the definitions of a line, on any RAM for each line that has the words; over
-- two runs of calls, each known by the calls' contracts alone, from two chips whose channel n is the same, the other channels and the
-- PSG being free; and the forecast of a list that has a STOP
pub record Sameness (words mended : List ℕ) : Type 0 where
  pub by_lines :
      (start : ℕ) (c : Channel) → Fresh start c → (rams others : List (List ℕ)) →
      AllHave start words rams → AllHave start mended others →
      Plays words mended start (played_on rams c) (played_on others c)
  pub over_runs :
      (n start : ℕ) → n < 3 → {w v x y : World} {log other : List Made} →
      Fresh start (channel w.chip n) → channel x.chip n ≡ channel w.chip n →
      Run w log v → Each (Lends n start words) log →
      Run x other y → Each (Lends n start mended) other →
      Plays words mended start (played_in n log) (played_in n other)
  pub forecast :
      has_stop words ≡ true → (start : ℕ) → start % 2 ≡ 0 → Fits mended start →
      (ram other : List ℕ) → length ram ≡ ram_bytes → length other ≡ ram_bytes →
      Has ram start words → Has other start mended → SameForecast ram other start
