-- An edit, and its entry at the record's place.
use Rattle.page.proofs.Ways.{writes}
use Rattle.page.proofs.page_write.Goals as goal

pub returns : goal.returns
returns c =
    let a = c.args in
    let state = c.undo_of-undo.ensures in
    writes a.chip a.editor a.store.now a.places.now a.address a.byte
    (rw (c.standing-place.ensures, state) at c.edited-done.ensures) (rw state at c.put.ensures)
