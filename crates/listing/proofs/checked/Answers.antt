-- A word's line is one more; a line that is no word's is bad; and at the end of the text none was bad.
use Rattle.std.proofs.Common.{◌≡◌, Bool, true, false, List, ℕ, ◌++◌, refl, ◌∙◌, sym, ap, length, drop, rules, arith, length-append}
use Rattle.std.specs.Prelude.{◌≢◌}
use Rattle.common.specs.Lists.{begins}
use Rattle.common.proofs.Begins.{begins-with, begins-true}
use Rattle.mnemonic.proofs.Lines.{some}
use Rattle.listing.proofs.Stages.{stripped, bad-line, no_bad-line}
use Rattle.listing.proofs.checked.Goals as goal

-- a text that does not begin with a line is not that line and something more
not_begun : (l s : List ℕ) {b : Bool} → b ≡ begins l s → b ≡ false → (more : List ℕ) → s ≢ l ++ more
not_begun l s e h more f =
    let t : begins l s ≡ true = rw f (begins-with l more) in
    let z : ◌≡◌ {A = ℕ} 0 1 = cc in omega arith

-- one that does is that line and what is behind it
begun : (l s : List ℕ) {behind : List ℕ} {b : Bool} {n : ℕ} → b ≡ begins l s → b ≡ true → n ≡ length l → behind ≡ drop n s → s ≡ l ++ behind
begun l s e h n g = rw (g, n) (begins-true l s (sym e ∙ h))

pub returns-then-not-begins_with_line : goal.returns-then-not-begins_with_line
returns-then-not-begins_with_line c =
    bad-line c.loop-rest.invariant.1 c.guess-word.ensures (not_begun _ _ c.begins_with_line.ensures c.if-not-begins_with_line.true) (search rules)

pub split_at-requires : goal.split_at-requires
split_at-requires c =
    let line = begun _ _ c.begins_with_line.ensures c.if-not-begins_with_line.false c.width.ensures refl in
    omega (arith, c.width.ensures, simp length-append at (ap length line))

pub loop-rest-smaller : goal.loop-rest-smaller
loop-rest-smaller c = omega (arith, some c.guess-word.result, c.width.ensures, c.split_at.ensures.back_len)

pub loop-rest-preserved : goal.loop-rest-preserved
loop-rest-preserved c =
    let l = c.loop-rest in (
      omega (arith, some c.guess-word.result, c.width.ensures, c.split_at.ensures.back_len),
      stripped l.invariant.1 c.guess-word.ensures (search rules)
          (begun _ _ c.begins_with_line.ensures c.if-not-begins_with_line.false c.width.ensures c.split_at.ensures.back),
    )

pub returns : goal.returns
returns c = no_bad-line c.loop-rest.invariant.1 (search rules)
