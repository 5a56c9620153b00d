-- 01, "Sound": what the forecast promises.
use Rattle.std.specs.Prelude.{◌≡◌, List, ℕ, Result, Ok, Err}
use Rattle.common.specs.Answers.{done, served}
use Rattle.common.specs.Refusals.{number}
use Rattle.common.specs.declared.answer.Refusal.{Refusal}
use Rattle.forecast.specs.declared.Length.{Length}
use Rattle.forecast.specs.Demand.{Demand}
use Rattle.forecast.specs.Rule.{lines_forecast, cycles_forecast, most_forecast, answer_of}

-- what a forecast tells: a number of the table, the list's lines, its least and its most cycles
pub record Answer : Type 0 where
  pub answer : ℕ
  pub lines : ℕ
  pub cycles : ℕ
  pub most : ℕ

-- where it is refused, the number and zeros
abbrev pub told : Result Length Refusal → Answer
told (Ok length) = record { answer = done; lines = length.lines; cycles = length.cycles; most = length.most }
told (Err refusal) = record { answer = number refusal; lines = 0; cycles = 0; most = 0 }

-- the answer; the list's lines, its least and its most cycles where it is served, else 0; and of a served forecast demand 3, for its
-- own numbers
pub record Forecasts (ram : List ℕ) (start prescale : ℕ) (r : Answer) : Type 0 where
  pub answer : r.answer ≡ answer_of ram start
  pub lines : r.lines ≡ served (answer_of ram start) (lines_forecast ram start prescale) 0
  pub cycles : r.cycles ≡ served (answer_of ram start) (cycles_forecast ram start) 0
  pub most : r.most ≡ served (answer_of ram start) (most_forecast ram start) 0
  pub demand : r.answer ≡ done → Demand ram start prescale r.lines r.cycles r.most
