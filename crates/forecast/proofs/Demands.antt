-- Demand 3, from the run of calls to the reports of each channel.
use mathlib.Core.Path.{◌≡◌}
use mathlib.Core.Bool.{true}
use mathlib.Core.List.{List}
use Prim.Native.Nat.{ℕ}
use Rattle.words.specs.Words.{has_stop}
use Rattle.forecast.specs.Rule.{even, words_of, lines_forecast, cycles_meeting, cycles_forecast, most_forecast}
use Rattle.forecast.specs.Demand.{channel, steps_of, did_over, Demand}
use Rattle.forecast.proofs.Runs.{seen, bounded}
use Rattle.forecast.proofs.Plays.{plays}
use Rattle.forecast.proofs.Disturbed.{foretold}

-- a forecast that finds a STOP meets demand 3
pub demanded :
    (ram : List ℕ) (start n : ℕ) → has_stop (words_of ram (even start)) ≡ true →
    Demand ram start n (lines_forecast ram start n) (cycles_forecast ram start) (most_forecast ram start)
demanded ram start n listed =
    record {
      foretold =
          λ m h w v log ready run ok.
          foretold m (lines_forecast ram start n) (λ a. cycles_meeting a ram start) (steps_of log)
          (plays ram start n (channel w.chip m) (did_over m (steps_of log)) listed ready (seen m h run ok));
      bounded = λ w v log run. bounded run;
    }
