-- A line moves the parts that the loop carries; none is left where the number is reached.
use Rattle.std.proofs.Common.{◌+◌, ◌-◌, ap, sym, ◌∙◌, rules}
use Rattle.replay.specs.Parts.{moved, lines_on}
use Rattle.replay.proofs.Lines.{parts-moved, line-more, lines_end}
use Rattle.replay.proofs.lines_on.Goals as goal

pub loop-preserved : goal.loop-preserved
loop-preserved c =
    let a = c.args in
    let v = c.loop in
    ap (lines_on a.ram.now (a.to - (v.counter + 1)))
    (parts-moved a.ram.now a.chip v.sound v.crtc v.raster _ c.advance-line.result c.advance-line.ensures)
    ∙ line-more a.ram.now a.to v.counter (moved a.chip v.sound v.crtc v.raster) (search rules)
    ∙ v.invariant

pub returns : goal.returns
returns c =
    let a = c.args in
    let v = c.loop in
    sym (lines_end a.ram.now a.to v.counter (moved a.chip v.sound v.crtc v.raster) (search rules)) ∙ v.invariant
