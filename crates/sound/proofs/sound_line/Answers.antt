-- With channel n's turn taken one more channel has been worked through, whether or not it is put back.
use Rattle.std.proofs.Common.{◌≡◌, refl, ◌∙◌, rules, arith}
use Rattle.sound.specs.Line.{channel_of}
use Rattle.sound.proofs.Worked.{one_more, off_more, room, all-worked}
use Rattle.sound.proofs.sound_line.Goals.{then-sound-n, else-sound-n}
use Rattle.sound.proofs.sound_line.Goals as goal

pub overflow_add-cycles : goal.overflow_add-cycles
overflow_add-cycles c =
    let l = c.loop-n in
    record { fits = room _ _ _ l.n _ _ l.sound l.entries c.of.result c.line-turn.result.did l.invariant (search rules) c.own_cycles-cycles.ensures }

pub loop-n-preserved : goal.loop-n-preserved
loop-n-preserved c =
    let l = c.loop-n in
    elim c.if-sound-n.branch [
      | then-sound-n w ↦ rw w.sound-is (one_more _ _ _ l.n _ _ l.sound l.entries _ (channel_of l.sound.channels l.n) c.line-turn.result _ l.invariant refl
          c.line-turn.ensures c.of.ensures c.own_cycles-cycles.ensures c.heard.ensures)
      | else-sound-n w ↦ rw w.sound-is (off_more _ _ _ l.n _ _ l.sound l.entries _ c.line-turn.result _ l.invariant
          c.line-turn.ensures c.of.ensures c.own_cycles-cycles.ensures c.heard.ensures w.if-sound-n.false)
    ]

pub returns : goal.returns
returns c =
    let last : c.loop-n.n ≡ 3 = omega arith in
    c.loop-n.invariant ∙ rw last (all-worked c.args.ram.now c.args.accesses c.args.sound (search rules))
