-- The pass pays for the whole list, or finds no STOP.
use Rattle.std.proofs.Common.{◌≡◌, ℕ, [], ◌+◌, ◌*◌, ◌≤◌, get_or, take_all, length-drop, ap, sym, ◌∙◌, add-zero, arith}
use Rattle.sound.specs.Channels.{word_at}
use Rattle.forecast.specs.Rule.{even, lines_forecast, cycles_meeting}
use Rattle.forecast.proofs.Words.{pair-word}
use Rattle.forecast.proofs.Walk.{walked_stop, walked_end}
use Rattle.forecast.proofs.Answer.{answer-length, answer-none, forecast-refused, forecast-served}
use Rattle.forecast.proofs.Pass.{scanned_none, scanned_stop, scanned_more}
use Rattle.forecast.proofs.forecast.Goals as goal
use Rattle.forecast.proofs.forecast.Goals.{After-from_le_bytes-word}

-- the address of the word in turn, which is that of RAM there
module _ (c : After-from_le_bytes-word) where
  abbrev at : ℕ
  at = even c.args.start + c.loop-bytes.bytes-index * 2

  inside : at + 2 ≤ 65536
  inside = omega arith

  word : c.from_le_bytes-word.result ≡ word_at c.args.ram.now at
  word =
      pair-word c.args.ram.now (even c.args.start) _ c.loop-bytes.bytes-index _ _ _ (take_all _ _ (simp length-drop (omega arith))) (omega arith) (omega arith)
      (ap (λ l. get_or l c.loop-bytes.bytes-index []) c.as_chunks.ensures.front) c.from_le_bytes-word.ensures

pub returns-then-ram-ne-RAM : goal.returns-then-ram-ne-RAM
returns-then-ram-ne-RAM c = forecast-refused _ _ _ 0 (answer-length _ _ c.if-ram-ne-RAM.true)

pub loop-bytes-init : goal.loop-bytes-init
loop-bytes-init c = rw add-zero (scanned_none _ _ _ _ (omega arith) c.default-scan.ensures)

pub returns-then-stops : goal.returns-then-stops
unfolding lines_forecast cycles_meeting
returns-then-stops c =
    let before = (goal.at.returns-then-stops c).After-from_le_bytes-word in
    let inv = c.loop-bytes.invariant in
    let stop = rw (word before) at (sym c.stops.ensures ∙ c.if-stops.true) in
    let sums = scanned_stop _ _ _ _ _ inv (inside before) stop in
    let found = walked_stop _ _ _ inv.walked (inside before) stop in
    rw (c.passed-scan.ensures, word before)
    (forecast-served _ _ _ _ c.if-ram-ne-RAM.false found sums.0 sums.1 sums.2)

pub loop-bytes-preserved : goal.loop-bytes-preserved
loop-bytes-preserved c =
    let before = (goal.at.loop-bytes-preserved c).After-from_le_bytes-word in
    let more = rw (word before) at (sym c.stops.ensures ∙ c.if-stops.false) in
    let next : even c.args.start + (c.loop-bytes.bytes-index + 1) * 2 ≡ at before + 2 = omega arith in
    rw (c.passed-scan.ensures, word before, next)
    (scanned_more _ _ _ _ _ c.loop-bytes.invariant (inside before) (omega arith) more)

pub returns : goal.returns
returns c =
    let none = walked_end _ _ _ c.loop-bytes.invariant.walked (omega arith) in
    forecast-refused _ _ _ 5 (answer-none _ _ c.if-ram-ne-RAM.false none)
