-- What the line's call and the forecast promise in their C form. The other calls have the promises of their crates.
use Rattle.std.specs.Prelude.{◌≡◌, List, [], ℕ, ◌≤◌, length, take, drop}
use Rattle.sound.specs.declared.Accesses.{Accesses}
use Rattle.sound.specs.declared.Report.{Report}
use Rattle.sound.specs.Line.{sound_report}
use Rattle.chip.specs.declared.Chip.{Chip}
use Rattle.common.specs.Answers.{served}
use Rattle.chip.specs.Step.{stepped, idle_report}
use Rattle.draw.specs.Drawing.{Draws}
use Rattle.line.specs.Contract.{line_answer}
use Rattle.forecast.specs.Contract.{Answer, Forecasts}
use Rattle.forecast.specs.Rule.{even, answer_of, list_of}
use Rattle.plus.specs.declared.PlusStepped.{PlusStepped}
use Rattle.plus.specs.declared.PlusLength.{PlusLength}
use Rattle.plus.specs.Report.{kinds_of, lows_of}

-- the report of a line: the line's, or that of a refusal
abbrev pub report_of : ℕ → Chip → List ℕ → Accesses → Report
report_of number c ram a = served number (sound_report ram a c.sound) idle_report

-- the line's call: drawn, then stepped; refused, neither. No line costs over 34 cycles
pub record LineTold (c : Chip) (ram store : List ℕ) (a : Accesses) (line line' : List ℕ) (r : PlusStepped) : Type 0 where
  pub answer : r.answer ≡ line_answer c ram store (length line)
  pub draws : Draws c ram store line line' r.answer
  pub chip : r.chip ≡ served r.answer (stepped ram c) c
  pub cycles : r.cycles ≡ (report_of r.answer c ram a).cycles
  pub kinds : r.kinds ≡ kinds_of (report_of r.answer c ram a).entries
  pub lows : r.lows ≡ lows_of (report_of r.answer c ram a).entries
  pub bound : r.cycles ≤ 34

-- the part of the answer that forecast's own promise is about
abbrev pub told_by : PlusLength → Answer
told_by r = record { answer = r.answer; lines = r.lines; cycles = r.cycles; most = r.most }

-- the forecast: its own promise, demand 3 with it; and the list as a part of RAM, from the even start, as long as the list is,
-- 0 and 0 where it is refused
pub record LengthTold (ram : List ℕ) (start prescale : ℕ) (r : PlusLength) : Type 0 where
  pub told : Forecasts ram start prescale (told_by r)
  pub offset : r.offset ≡ served (answer_of ram start) (even start) 0
  pub size : r.length ≡ served (answer_of ram start) (length (list_of ram start)) 0
  pub list : take r.length (drop r.offset ram) ≡ served (answer_of ram start) (list_of ram start) []
