-- 02, L5: every chip reached from reset is within the widths.
use mathlib.Core.Path.{refl}
use mathlib.Core.List.{List}
use Prim.Native.Nat.{ℕ, ◌<◌}
use native.Mathlib.Omega.{arith}
use Rattle.editors.specs.declared.Editor.{Editor}
use Rattle.chip.specs.State.{with_editing}
use Rattle.chip.specs.Editors.{editing_with, started}
use Rattle.registers.specs.Address.{register_at}
use Rattle.registers.specs.Registers.{register_written}
use Rattle.contents.specs.Widths.{Widths}
use Rattle.contents.proofs.WidthsLaws.{reset_widths, write-widths}
use Rattle.runs.specs.World.{World}
use Rattle.runs.specs.Call.{Call, Typed, served_world, world_after}
use Rattle.runs.specs.Run.{Made}
use Rattle.runs.specs.Reached.{Reached}
use Rattle.runs.proofs.Calls.{by_answer}
use Rattle.runs.proofs.ChipWidths.{beside, stepped-widths}
use Rattle.runs.proofs.Views.{Edits, View, feeds, writes, undoes, steps, starts, lends, plain, view}
use Rattle.runs.proofs.Runs.{handed-on}

edit_widths :
    {w v : World} {ed : Editor} {address byte : ℕ} → Edits w v ed address byte → byte < 256 → Widths w.chip → Widths v.chip
edit_widths {w} {v} {ed} {address} {byte} e h k =
    let d = register_written w.chip ed (register_at address) byte in
    rw e.chip
    (beside d (with_editing d (editing_with w.chip.editing ed e.undo_record)) refl refl refl refl refl
    (write-widths w.chip ed (register_at address) byte h k))

served-widths : (w : World) (c : Call) → View w c → Typed c → Widths w.chip → Widths (served_world w c).chip
unfolding started
served-widths w c (feeds b l) h k = l.widths k
served-widths w c (writes ed a b e) h k = edit_widths e h.1 k
served-widths w c (undoes ed e) h k = edit_widths e (omega arith) k
served-widths w c (steps a l) h k = rw l.next (stepped-widths w.lent.ram w.chip k)
served-widths w c (starts o) h k = beside w.chip (started w.chip o) refl refl refl refl refl k
served-widths w c (lends l) h k = k
served-widths w c (plain s q l) h k = l.widths k

pub call-widths : (w : World) (c : Call) → Typed c → Widths w.chip → Widths (world_after w c).chip
call-widths w c h k = by_answer (λ v. Widths v.chip) w c (λ z. served-widths w c (view w c) h k) k

-- any run from reset
pub within : {start w : World} {log : List Made} → Reached start log w → Widths w.chip
within p = handed-on (λ w. Widths w.chip) (λ w c. Typed c) call-widths p.run p.typed (rw p.fresh.chip reset_widths)
