-- A buffer of another length is left; the loop puts one register after the other in front.
use Rattle.std.proofs.Common.{◌≡◌, [], take, refl, sym, ap, ◌∙◌, arith, rules}
use lib.Seq.{take_all}
use borrow.Author.Tests.{eq-eqb, ne_eqb}
use Rattle.contents.specs.Contents.{contents}
use Rattle.export.specs.Export.{exported, bytes_of, export_answer}
use Rattle.export.proofs.Putting.{how_many, one_more}
use Rattle.export.proofs.export.Goals as goal

pub returns-then-out-ne-EXPORT : goal.returns-then-out-ne-EXPORT
unfolding export_answer
returns-then-out-ne-EXPORT c =
    let t = ne_eqb _ _ c.if-out-ne-EXPORT.true in
    record { answer = simp t (search rules); buffer = simp t }

pub loop-k-init : goal.loop-k-init
unfolding bytes_of
loop-k-init c = (search rules, refl)

pub loop-k-preserved : goal.loop-k-preserved
loop-k-preserved c = (
  search rules,
  one_more c.args.chip c.loop-k.k (search rules) c.address_of-address.ensures
      (c.contents_of-byte.ensures ∙ ap (contents c.args.chip []) c.register_at-register.ensures) c.loop-k.invariant.1 c.put_three.ensures,
)

pub returns : goal.returns
unfolding export_answer
returns c =
    let l = c.loop-k in
    let last : l.k ≡ 159 = omega arith in
    let t = eq-eqb _ _ c.if-out-ne-EXPORT.false in
    let whole : take 477 l.out ≡ bytes_of c.args.chip (take 159 exported) = rw last at l.invariant.1 in
    record {
      answer = simp t;
      buffer =
          sym (take_all 477 l.out (omega (arith, l.auto.out))) ∙ whole
          ∙ rw (take_all 159 exported (omega (arith, how_many))) (simp t);
    }
