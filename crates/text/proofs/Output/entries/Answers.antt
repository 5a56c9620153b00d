-- No entry is put, then one more.
use Rattle.std.proofs.Common.{ap, ◌∙◌, arith}
use Rattle.text.specs.Paint.{character, characters}
use Rattle.text.proofs.Putting.{nothing, joined}
use Rattle.text.proofs.Painting.{one-more}
use Rattle.text.proofs.Output.entries.Goals as goal

pub loop-x-init : goal.loop-x-init
unfolding characters
loop-x-init c = record { prints = nothing _; place = omega arith }

pub loop-x-preserved : goal.loop-x-preserved
loop-x-preserved c =
    let shown = c.character.ensures ∙ ap character c.byte_at.ensures in
    record { prints = rw one-more (joined c.loop-x.invariant.prints (rw shown at c.put.ensures)); place = omega (arith, c.put.ensures.puts.place) }
