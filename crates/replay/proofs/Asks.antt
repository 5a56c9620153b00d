-- The call of a record by its kind.
use mathlib.Core.Path.{◌≡◌, refl}
use mathlib.Core.Bool.{Bool, true, false}
use mathlib.Core.List.{List, [], ◌∷◌}
use lib.Dec.{eqb}
use Rattle.common.specs.Choice.{if}
use Rattle.editors.specs.declared.Owners.{Owners}
use Rattle.chip.specs.Editors.{started}
use Rattle.chip.specs.Ports.{selected, data_written, gate_written}
use Rattle.chip.specs.Interrupts.{acknowledged}
use Rattle.chip.specs.Mute.{mute_set}
use Rattle.page.specs.Page.{page_written}
use Rattle.page.specs.Undo.{undone}
use Rattle.runs.specs.Call.{Call}
use Rattle.runs.specs.Sort.{sort_of, line_in}
use Rattle.runs.proofs.Runs.{Whole}
use Rattle.take.specs.declared.Record.{Record}
use Rattle.replay.specs.Replay.{call_by}
use Rattle.replay.proofs.Slots.{Unseen}

-- a record is one call that neither steps a line, nor lends, nor sees the places of lists nor changes the area, or none
pub data Few : List Call → Type 0 where
  none : Few []
  one : {c : Call} → line_in (sort_of c) ≡ [] → Whole c → Unseen c → Few (c ∷ [])

either-few : (t : Bool) (cs ds : List Call) → Few cs → Few ds → Few (if t cs ds)
either-few true cs ds h i = h
either-few false cs ds h i = i

pub few : (o : Owners) (r : Record) → Few (call_by o r)
unfolding selected data_written gate_written acknowledged page_written undone started mute_set
few o r =
    either-few (eqb r.kind 1) _ _ (one refl tt (record { reply = λ s w. refl; next = λ s w. refl; area = λ w. refl }))
    (either-few (eqb r.kind 2) _ _ (one refl tt (record { reply = λ s w. refl; next = λ s w. refl; area = λ w. refl }))
    (either-few (eqb r.kind 3) _ _ (one refl tt (record { reply = λ s w. refl; next = λ s w. refl; area = λ w. refl }))
    (either-few (eqb r.kind 4) _ _ (one refl tt (record { reply = λ s w. refl; next = λ s w. refl; area = λ w. refl }))
    (either-few (eqb r.kind 5) _ _ (one refl tt (record { reply = λ s w. refl; next = λ s w. refl; area = λ w. refl }))
    (either-few (eqb r.kind 6) _ _ (one refl tt (record { reply = λ s w. refl; next = λ s w. refl; area = λ w. refl }))
    (either-few (eqb r.kind 7) _ _ (one refl tt (record { reply = λ s w. refl; next = λ s w. refl; area = λ w. refl }))
    (either-few (eqb r.kind 8) _ _ (one refl tt (record { reply = λ s w. refl; next = λ s w. refl; area = λ w. refl }))
    (either-few (eqb r.kind 9) _ _ (one refl tt (record { reply = λ s w. refl; next = λ s w. refl; area = λ w. refl }))
    (either-few (eqb r.kind 10) _ _ (one refl tt (record { reply = λ s w. refl; next = λ s w. refl; area = λ w. refl })) none)))))))))
