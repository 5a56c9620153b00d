-- An edit with the newest entry.
use Rattle.page.proofs.Ways.{undoes}
use Rattle.page.proofs.undo.Goals as goal

pub returns : goal.returns
returns c =
    let a = c.args in
    undoes a.chip a.editor a.store.now a.places.now (rw (c.newest-place.ensures, c.undo_of-undo.ensures) at c.edited.ensures)
