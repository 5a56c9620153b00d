-- Border, then the main screen over it, then the sprites over those.
use Rattle.draw.proofs.Entries.{filled, border_mixed, all_mixed}
use Rattle.draw.proofs.mix.Goals as goal

pub returns-then-edges : goal.returns-then-edges
returns-then-edges c =
    border_mixed _ _ _ _ _ c.if-edges.true (filled 16 (rw c.told-line at (c.fill.ensures.after (λ y e. e))))

pub returns : goal.returns
returns c =
    all_mixed _ _ _ _ _ (filled 16 (rw c.told-line at (c.fill.ensures.after (λ y e. e)))) c.lay_main.ensures c.lay_sprites.ensures
