-- Each way out by its law; a place is of whole words.
use Rattle.std.proofs.Common.{◌≡◌, ℕ, Bool}
use Rattle.lists.specs.InUse.{uses}
use Rattle.lists.specs.Room.{start_of, end_of}
use Rattle.lists.proofs.Room.{start-even, end_even}
use Rattle.lists.proofs.Uses.{TestsUse, tests-rule, range_within, by_one, by-words, by_the_mark, by-neither}
use Rattle.lists.proofs.in_use.Goals as goal

-- a test of the place that was read is the rule
by_place :
    (p : ℕ) {s e address mark counter : ℕ} {r : Bool} → s ≡ start_of p → e ≡ end_of p → TestsUse s e address mark counter r →
    r ≡ uses (start_of p) (end_of p) address mark counter
by_place p g h t = tests-rule (rw (g, h) at t) (start-even p) (end_even p)

pub returns-then-counter-eq0 : goal.returns-then-counter-eq0
returns-then-counter-eq0 c =
    by_place _ c.start_of.ensures c.end_of.ensures.0 (by_one c.if-counter-eq0.true (range_within c.start_of.result c.end_of.result c.args.address c.contains.ensures.value))

pub returns-then-mark-address : goal.returns-then-mark-address
returns-then-mark-address c =
    by_place _ c.start_of.ensures c.end_of.ensures.0 (by-words c.if-counter-eq0.false c.if-mark-address.true c.meets.ensures)

pub returns-then-contains : goal.returns-then-contains
returns-then-contains c =
    by_place _ c.start_of.ensures c.end_of.ensures.0
    (by_the_mark c.if-counter-eq0.false c.if-contains.true (range_within c.start_of.result c.end_of.result c.args.mark c.contains-2.ensures.value))

pub returns-else-contains : goal.returns-else-contains
returns-else-contains c =
    by_place _ c.start_of.ensures c.end_of.ensures.0
    (by-neither c.if-mark-address.false c.if-contains.false (range_within c.start_of.result c.end_of.result c.args.mark c.contains-2.ensures.value)
    (range_within c.start_of.result c.end_of.result c.args.address c.contains-else-contains.ensures.value))
