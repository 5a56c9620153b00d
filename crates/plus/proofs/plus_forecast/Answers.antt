-- Forecast's own promise, and the list that it lends back as a part of RAM.
use Rattle.std.proofs.Common.{◌≡◌, ◌∙◌, sym, arith}
use Rattle.forecast.specs.Rule.{answer_of, list_of}
use Rattle.plus.proofs.Part.{list_inside, list-part}
use Rattle.plus.proofs.plus_forecast.Goals as goal
use Rattle.plus.proofs.plus_forecast.Goals.{After-list}

-- the forecast is served, and the list is lent
module _ (c : After-list) where
  done : answer_of c.args.ram.now c.args.start ≡ 0
  done = sym c.in-Ok.ensures.answer

  lent : c.list.result.now ≡ list_of c.args.ram.now c.args.start
  lent = c.list.ensures ∙ simp done

pub overflow_cast-result-in-Ok : goal.overflow_cast-result-in-Ok
overflow_cast-result-in-Ok c =
    let inside = list_inside c.args.ram.now c.args.start (omega arith) in
    record { fits = rw (lent c) (omega (arith, inside)) }

pub returns-in-Ok : goal.returns-in-Ok
returns-in-Ok c =
    record {
      told = c.in-Ok.ensures;
      offset = simp (done c);
      size = simp (done c, lent c);
      list = simp (done c, lent c, list-part);
    }
