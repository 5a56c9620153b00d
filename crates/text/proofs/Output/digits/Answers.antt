-- No digit is put, then those of one more byte.
use Rattle.std.proofs.Common.{arith}
use Rattle.text.specs.Paint.{characters}
use Rattle.text.proofs.Putting.{nothing, joined}
use Rattle.text.proofs.Painting.{two-more}
use Rattle.text.proofs.Output.digits.Goals as goal

pub loop-byte-init : goal.loop-byte-init
unfolding characters
loop-byte-init c = record { prints = nothing _; place = omega arith }

pub loop-byte-preserved : goal.loop-byte-preserved
loop-byte-preserved c =
    record {
      prints = rw two-more (joined c.loop-byte.invariant.prints (rw (c.character.ensures, c.character-in-loop-byte.ensures) at c.put.ensures));
      place = omega (arith, c.put.ensures.puts.place);
    }
