-- What a call does to the area for lists, to their places and to RAM.
use mathlib.Core.Path.{◌≡◌, refl}
use mathlib.Core.Bool.{Bool, true, false}
use mathlib.Core.List.{List, []}
use Prim.Native.Nat.{ℕ, ◌<◌}
use native.Mathlib.Omega.{arith}
use borrow.Author.Tests.{lt-ltb}
use Rattle.common.specs.Answers.{done, wrong_area, no_handle_answer, list_in_use}
use Rattle.common.specs.Choice.{if}
use Rattle.lists.specs.declared.Area.{Area}
use Rattle.lists.specs.Area.{standing, has}
use Rattle.lists.specs.Remove.{taken, remove_answer}
use Rattle.lists.proofs.Bounds.{taken_is}
use Rattle.chip.specs.Editors.{started, lists_of}
use Rattle.chip.specs.Ports.{selected, data_written, gate_written}
use Rattle.chip.specs.Interrupts.{acknowledged}
use Rattle.chip.specs.Mute.{mute_set}
use Rattle.chip.specs.Step.{stepped, counters_stepped}
use Rattle.page.specs.Page.{page_written}
use Rattle.page.specs.Undo.{undone}
use Rattle.runs.specs.World.{World, Loan, lent_ram, lent_store, lent_places, lent_slots}
use Rattle.runs.specs.Call.{Call, bc, bd, gate, read, write, undo, ack, line, step, start, area, place, remove, mute, lend, served_world}
use Rattle.runs.specs.Sort.{list_in}

-- it leaves them all; gives an area; places a list; removes one; or lends another RAM or other places
pub data RoomView (w : World) : Call → Type 0 where
  stays :
      {c : Call} → list_in c ≡ [] → lists_of (served_world w c).chip ≡ lists_of w.chip → (served_world w c).lent.slots ≡ w.lent.slots →
      (served_world w c).lent.ram ≡ w.lent.ram → RoomView w c
  gives : (from upto : ℕ) → RoomView w (area from upto)
  places : (list : List ℕ) → RoomView w (place list)
  removes : (handle : ℕ) → RoomView w (remove handle)
  lends-ram : (l : List ℕ) → RoomView w (lend (lent_ram l))
  lends_slots : (l : List ℕ) → RoomView w (lend (lent_slots l))

loan_view : (w : World) (l : Loan) → RoomView w (lend l)
loan_view w (lent_ram l) = lends-ram l
loan_view w (lent_store l) = stays refl refl refl refl
loan_view w (lent_places e l) = stays refl refl refl refl
loan_view w (lent_slots l) = lends_slots l

pub room-view : (w : World) (c : Call) → RoomView w c
unfolding selected data_written gate_written acknowledged page_written undone stepped counters_stepped started mute_set
room-view w (bc b) = stays refl refl refl refl
room-view w (bd b) = stays refl refl refl refl
room-view w (gate b) = stays refl refl refl refl
room-view w (read e a bus) = stays refl refl refl refl
room-view w (write e a b) = stays refl refl refl refl
room-view w (undo e) = stays refl refl refl refl
room-view w ack = stays refl refl refl refl
room-view w (line a n) = stays refl refl refl refl
room-view w (step a) = stays refl refl refl refl
room-view w (start o) = stays refl refl refl refl
room-view w (area from upto) = gives from upto
room-view w (place list) = places list
room-view w (remove handle) = removes handle
room-view w (mute n on) = stays refl refl refl refl
room-view w (lend l) = loan_view w l

-- ---- a removal that is served, and one that is refused by 22
pub record Served (a : Area) (handle : ℕ) (playing : Bool) : Type 0 where
  pub below : handle < 64
  pub on : has a handle ≡ true
  pub idle : playing ≡ false

module _ (a : Area) (handle : ℕ) (playing : Bool) where
  pub removal_served : remove_answer a handle playing ≡ done → Served a handle playing
  unfolding remove_answer
  removal_served z = go (standing a) (taken a handle) playing refl refl refl z
    where
      go :
          (s t p : Bool) → standing a ≡ s → taken a handle ≡ t → playing ≡ p →
          if s (if t (if p list_in_use done) no_handle_answer) wrong_area ≡ done → Served a handle playing
      go true true true e f g z = absurd (omega arith)
      go true true false e f g z = let t = taken_is a handle f in record { below = t.0; on = t.1; idle = g }
      go true false p e f g z = absurd (omega arith)
      go false t p e f g z = absurd (omega arith)

  pub removal_refused : standing a ≡ true → handle < 64 → has a handle ≡ true → playing ≡ true → remove_answer a handle playing ≡ list_in_use
  unfolding remove_answer taken
  removal_refused s l h p = simp (s, lt-ltb handle 64 l, h, p)
