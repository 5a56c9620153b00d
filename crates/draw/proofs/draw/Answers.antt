-- The store and the line have their lengths; a line that is served is border, the main pens and the sprites, as its parts lay them.
use Rattle.std.proofs.Common.{rules, refl, sym}
use Rattle.draw.proofs.Parts.{sizes, served}
use Rattle.draw.proofs.draw.Goals as goal

pub unwrap-store-requires : goal.unwrap-store-requires
unwrap-store-requires c = c.as_array.ensures.variant.1 (sizes c.args.chip _ _ _ (sym c.in_ok-may_draw.ensures)).1

pub unwrap-line-requires : goal.unwrap-line-requires
unwrap-line-requires c = c.as_mut_array.ensures.variant.1 (sizes c.args.chip _ _ _ (sym c.in_ok-may_draw.ensures)).2

pub returns : goal.returns
returns c =
    let store = rw c.unwrap-store.ensures at c.as_array.ensures.cases in
    served _ _ _ (rw c.frame_line.ensures at c.line_sprites-shown.ensures)
    (record { mode = refl; address = refl; row = c.row_line.ensures; scroll = c.scroll_of.ensures })
    (record { left = c.left_of.ensures; right = c.right_of.ensures.0 })
    c.in_ok-may_draw.ensures (rw store.same at c.mix.ensures) (search rules)
