-- What a call is to claims over runs. A claim that treats calls alike goes by these cases, and a call that is like another is named here
-- alone.
use mathlib.Core.Path.{◌≡◌, refl, ap}
use mathlib.Core.Bool.{Bool}
use mathlib.Core.List.{List, []}
use Prim.Native.Nat.{ℕ}
use Rattle.common.specs.Answers.{served}
use Rattle.editors.specs.declared.Editor.{Editor}
use Rattle.editors.specs.declared.Owners.{Owners}
use Rattle.ring.specs.declared.Undo.{Undo}
use Rattle.sound.specs.declared.Accesses.{Accesses}
use Rattle.sound.specs.Line.{channel_of, sound_report}
use Rattle.chip.specs.declared.Chip.{Chip}
use Rattle.chip.specs.Channels.{Aside}
use Rattle.chip.specs.Ports.{selected, data_written, gate_written}
use Rattle.chip.specs.Interrupts.{acknowledged}
use Rattle.chip.specs.Mute.{mute_set}
use Rattle.chip.specs.State.{with_editing}
use Rattle.chip.specs.Step.{stepped as stepped_chip, idle_report}
use Rattle.lists.specs.declared.Area.{Area}
use Rattle.chip.specs.Editors.{undo_of, editing_with, with_lists}
use Rattle.chip.proofs.ChannelLaws.{aside_self, acknowledge_leaves, mute_leaves}
use Rattle.registers.specs.Address.{register_at}
use Rattle.registers.specs.Registers.{register_written}
use Rattle.contents.specs.Widths.{Widths}
use Rattle.page.specs.UndoRecord.{entry_address, entry_contents}
use Rattle.page.specs.Page.{page_written}
use Rattle.page.specs.Undo.{newest, undone}
use Rattle.runs.specs.World.{World, places_of, with_chip, roomed, Loan}
use Rattle.runs.specs.Call.{Call, bc, bd, gate, read, write, undo, ack, line, step, start, area, place, remove, mute, lend, report, outcome, answer_to, served_world}
use Rattle.runs.specs.Sort as sort
use Rattle.runs.specs.Sort.{sort_of}
use Rattle.runs.proofs.ChipWidths.{beside, acknowledged-widths, muted-widths}

-- what stays over a call that is neither an edit, nor a line step, nor a start, nor lends: the pixel store and the places of the undo
-- records; the table and these records; IVR; of a channel all but its interrupt; the widths
pub record Leaves (w v : World) : Type 0 where
  pub store : v.lent.store ≡ w.lent.store
  pub places : (e : Editor) → places_of v.lent e ≡ places_of w.lent e
  pub table : v.chip.editing.table ≡ w.chip.editing.table
  pub undo_record : (e : Editor) → undo_of v.chip.editing e ≡ undo_of w.chip.editing e
  pub ivr : v.chip.interrupts.ivr ≡ w.chip.interrupts.ivr
  pub channel : (n : ℕ) → Aside (channel_of w.chip.sound.channels n) (channel_of v.chip.sound.channels n)
  pub widths : Widths w.chip → Widths v.chip

-- a page write and an undo: an editor's byte to the register at an address, with another undo record of its, store and places
pub record Edits (w v : World) (ed : Editor) (address byte : ℕ) : Type 0 where
  pub undo_record : Undo
  pub chip :
      v.chip ≡ with_editing (register_written w.chip ed (register_at address) byte) (editing_with w.chip.editing ed undo_record)

-- the newest entry of an editor's record
abbrev pub newest_of : World → Editor → ℕ
newest_of w ed = newest w.chip ed (places_of w.lent ed)

-- a call that steps a line, drawn or not
pub record Lines (w : World) (c : Call) (a : Accesses) : Type 0 where
  pub sorts : sort_of c ≡ sort.steps_line a
  pub tells : (outcome w c).told ≡ report (served (answer_to w c) (sound_report w.lent.ram a w.chip.sound) idle_report)
  pub next : served_world w c ≡ with_chip w (stepped_chip w.lent.ram w.chip)

pub data View (w : World) : Call → Type 0 where
  feeds : (b : ℕ) → Leaves w (served_world w (bc b)) → View w (bc b)
  writes : (ed : Editor) (a b : ℕ) → Edits w (served_world w (write ed a b)) ed a b → View w (write ed a b)
  undoes :
      (ed : Editor) → Edits w (served_world w (undo ed)) ed (entry_address (newest_of w ed)) (entry_contents (newest_of w ed)) → View w (undo ed)
  steps : {c : Call} (a : Accesses) → Lines w c a → View w c
  starts : (o : Owners) → View w (start o)
  lends : (l : Loan) → View w (lend l)
  plain :
      {c : Call} → sort_of c ≡ sort.plain → (served_world w c).chip.lock ≡ w.chip.lock → Leaves w (served_world w c) → View w c

-- a world that differs in lock, gate array, 6845, raster flags, area for lists, RAM and the places of lists alone
others : (w : World) (d : Chip) (ram slots : List ℕ) → d.sprites ≡ w.chip.sprites → d.palette ≡ w.chip.palette →
    d.video ≡ w.chip.video → d.sound ≡ w.chip.sound → d.interrupts.ivr ≡ w.chip.interrupts.ivr →
    d.editing.table ≡ w.chip.editing.table → ((e : Editor) → undo_of d.editing e ≡ undo_of w.chip.editing e) →
    Leaves w (roomed w d ram slots)
others w d ram slots e f g h i j k =
    record {
      store = refl;
      places = λ ed. refl;
      table = j;
      undo_record = k;
      ivr = i;
      channel = λ n. rw h (aside_self (channel_of w.chip.sound.channels n));
      widths = beside w.chip d e f g (rw h) i;
    }

-- in the first four of these
ports : (w : World) (d : Chip) → d.sprites ≡ w.chip.sprites → d.palette ≡ w.chip.palette → d.video ≡ w.chip.video →
    d.sound ≡ w.chip.sound → d.interrupts.ivr ≡ w.chip.interrupts.ivr → d.editing ≡ w.chip.editing →
    Leaves w (with_chip w d)
ports w d e f g h i j = others w d w.lent.ram w.lent.slots e f g h i (rw j) (λ ed. rw j)

-- in the last three
room : (w : World) (lists : Area) (ram slots : List ℕ) → Leaves w (roomed w (with_lists w.chip lists) ram slots)
room w lists ram slots = others w (with_lists w.chip lists) ram slots refl refl refl refl refl refl (λ ed. refl)

acknowledge_all : (w : World) → Leaves w (with_chip w (acknowledged w.chip))
unfolding acknowledged
acknowledge_all w =
    record {
      store = refl;
      places = λ ed. refl;
      table = refl;
      undo_record = λ ed. refl;
      ivr = refl;
      channel = acknowledge_leaves w.chip;
      widths = acknowledged-widths w.chip;
    }

mute-all : (w : World) (k : ℕ) (on : Bool) → Leaves w (with_chip w (mute_set w.chip k on))
unfolding mute_set
mute-all w k on =
    record {
      store = refl;
      places = λ ed. refl;
      table = refl;
      undo_record = λ ed. refl;
      ivr = refl;
      channel = mute_leaves w.chip k on;
      widths = muted-widths w.chip k on;
    }

pub drawn-line : (w : World) (a : Accesses) (n : ℕ) → Lines w (line a n) a
drawn-line w a n = record { sorts = refl; tells = refl; next = refl }

pub stepped_line : (w : World) (a : Accesses) → Lines w (step a) a
stepped_line w a = record { sorts = refl; tells = refl; next = refl }

pub view : (w : World) (c : Call) → View w c
unfolding selected data_written gate_written acknowledged page_written undone mute_set
view w (bc b) = feeds b (ports w (selected w.chip b) refl refl refl refl refl refl)
view w (bd b) = plain refl refl (ports w (data_written w.chip b) refl refl refl refl refl refl)
view w (gate b) = plain refl refl (ports w (gate_written w.chip b) refl refl refl refl refl refl)
view w (read ed a bus) = plain refl refl (ports w w.chip refl refl refl refl refl refl)
view w (write ed a b) = writes ed a b (record { undo_record = _; chip = refl })
view w (undo ed) = undoes ed (record { undo_record = _; chip = refl })
view w ack = plain refl refl (acknowledge_all w)
view w (line a n) = steps a (drawn-line w a n)
view w (step a) = steps a (stepped_line w a)
view w (start o) = starts o
view w (area from upto) = plain refl refl (room w _ w.lent.ram w.lent.slots)
view w (place list) = plain refl refl (room w _ _ _)
view w (remove handle) = plain refl refl (room w _ w.lent.ram w.lent.slots)
view w (mute n on) = plain refl refl (mute-all w n on)
view w (lend l) = lends l

-- a call steps a line or doesn't
pub data LineView (w : World) : Call → Type 0 where
  one : {c : Call} (a : Accesses) → Lines w c a → LineView w c
  other : {c : Call} → sort.line_in (sort_of c) ≡ [] → LineView w c

line_of : {w : World} {c : Call} → View w c → LineView w c
line_of (feeds b l) = other refl
line_of (writes ed a b e) = other refl
line_of (undoes ed e) = other refl
line_of (steps a l) = one a l
line_of (starts o) = other refl
line_of (lends l) = other refl
line_of (plain s q l) = other (ap sort.line_in s)

pub line_view : (w : World) (c : Call) → LineView w c
line_view w c = line_of (view w c)

-- what holds of every call but a line step follows from what else holds of it
pub on_line_lem : (w : World) (P : Accesses → Type 0) (Q R : Type 0) (c : Call) → (Q → R) → sort.on_line P Q c → sort.on_line P R c
on_line_lem w P Q R c f x = go c (line_view w c) x
  where
    go : (c : Call) → LineView w c → sort.on_line P Q c → sort.on_line P R c
    go c (one a l) x = rw l.sorts (rw l.sorts at x)
    go c (other e) x = rw e (f (rw e at x))
