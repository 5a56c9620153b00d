-- What is left begins with the record that is asked for here.
use Rattle.take.proofs.FirstBad.{searched_none, found, passed, none}
use Rattle.take.proofs.first_bad.first_bad.Goals as goal

pub loop-i-init : goal.loop-i-init
loop-i-init g c = λ all e. searched_none all

pub returns-then-is_bad : goal.returns-then-is_bad
returns-then-is_bad g c =
    λ all e. found e (c.loop-i.invariant all e) c.loop-i-test.true c.entry_at-entry.ensures c.is_bad.ensures c.if-is_bad.true

pub loop-i-preserved : goal.loop-i-preserved
loop-i-preserved g c =
    λ all e. passed e (c.loop-i.invariant all e) c.loop-i-test.true c.entry_at-entry.ensures c.is_bad.ensures c.if-is_bad.false

pub returns : goal.returns
returns g c = λ all e. none e (c.loop-i.invariant all e) c.loop-i-test.false
