-- A run of calls as one channel sees it: its lines, one after the other.
use Rattle.std.specs.Prelude.{List, [], ◌∷◌, ℕ}
use Rattle.common.specs.Answers.{served}
use Rattle.sound.specs.declared.Channel.{Channel}
use Rattle.sound.specs.declared.Did.{Did}
use Rattle.sound.specs.Line.{did_of}
use Rattle.runs.specs.Sort.{on_line}
use Rattle.runs.specs.Run.{Made}
use Rattle.forecast.specs.Demand.{channel, report_in}

-- one channel's line: the channel before it, what it did there, the channel after it
pub record Line : Type 0 where
  pub before : Channel
  pub did : Did
  pub after : Channel

-- the served line steps as channel n sees them; what the channel did there is what the step reports
abbrev pub line_of : ℕ → Made → Line
line_of n e =
    record { before = channel e.before.chip n; did = did_of (report_in e.reply.told).entries n; after = channel e.after.chip n }

abbrev pub line_by : ℕ → Made → List Line → List Line
line_by n e ls = on_line (λ a. served e.reply.answer (line_of n e ∷ ls) ls) ls e.asks

abbrev pub played_in : ℕ → List Made → List Line
played_in n [] = []
played_in n (e ∷ es) = line_by n e (played_in n es)
