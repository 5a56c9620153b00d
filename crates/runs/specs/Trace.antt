-- 02, L5 and L9: what an editor's undo takes back, over any run of calls from reset, whatever the other editor does between.
use Rattle.std.specs.Prelude.{◌≡◌, Bool, true, false, List, [], ◌∷◌, ℕ, take}
use Rattle.common.specs.Answers.{served}
use Rattle.common.specs.Choice.{if}
use Rattle.editors.specs.declared.Editor.{Editor}
use Rattle.editors.specs.Table.{same}
use Rattle.ring.specs.Ring.{tail}
use Rattle.sound.specs.declared.Channel.{Channel}
use Rattle.sound.specs.Line.{channel_of}
use Rattle.chip.specs.declared.Chip.{Chip}
use Rattle.chip.specs.Channels.{Keeps}
use Rattle.registers.specs.declared.address.Register.{Register}
use Rattle.registers.specs.Address.{register_at}
use Rattle.registers.specs.Registers.{register_read}
use Rattle.contents.specs.Contents.{contents}
use Rattle.contents.specs.Shown.{shows_dcsr}
use Rattle.contents.specs.Widths.{Bytes}
use Rattle.page.specs.UndoRecord.{is_kept}
use Rattle.runs.specs.World.{World, places_of}
use Rattle.runs.specs.Sort.{Sort, feeds, writes, undoes, steps_line, starts, lends, plain, sort_of, on_edit}
use Rattle.runs.specs.Run.{Made}
use Rattle.runs.specs.Reached.{Reached}

-- ---- one pixel store, which page writes and undos of both editors hand on, and one set of places, which this editor's do; every other
-- call may be lent what it likes

pub record Handed : Type 0 where
  pub store : List ℕ
  pub places : List ℕ

-- what is lent on a world to this editor's edits
abbrev pub lent_on : World → Editor → Handed
lent_on w ed = record { store = w.lent.store; places = places_of w.lent ed }

-- what an edit of either editor hands on, and what it must be lent
abbrev pub handed_to : Bool → World → Editor → Handed → Handed
handed_to true w ed h = lent_on w ed
handed_to false w ed h = record { store = w.lent.store; places = h.places }

abbrev pub LentTo : Bool → World → Editor → Handed → Type 0
LentTo true w ed h = lent_on w ed ≡ h
LentTo false w ed h = w.lent.store ≡ h.store

-- what a call hands on
abbrev pub handed_by : Editor → Made → Handed → Handed
handed_by ed e h = on_edit (λ f. handed_to (same ed f) e.after ed h) h e.asks

abbrev pub handed_over : Editor → List Made → Handed → Handed
handed_over ed [] h = h
handed_over ed (e ∷ es) h = handed_over ed es (handed_by ed e h)

-- each page write and each undo of a run is lent what the one before it left, the first of them these
abbrev pub HandsOn : Editor → List Made → Handed → Type 0
HandsOn ed [] h = Unit {0}
HandsOn ed (e ∷ es) h = on_edit (λ f. LentTo (same ed f) e.before ed h) (Unit {0}) e.asks × HandsOn ed es (handed_by ed e h)

-- ---- the writes that this editor's undo can still take back

-- a write: its address, and the world just before it
pub record Snapshot : Type 0 where
  pub address : ℕ
  pub before : World

-- newest first, after a call on the world w with this answer: a write of the editor's that is served and kept comes first, and the last
-- 256 stay; its served undo takes the first away; a start empties them
abbrev pub snapshots_by : Editor → Sort → World → ℕ → List Snapshot → List Snapshot
snapshots_by ed (feeds b) w answer ss = ss
snapshots_by ed (writes e a b) w answer ss =
    if (same ed e) (served answer (if (is_kept (register_at a)) (take 256 (record { address = a; before = w } ∷ ss)) ss) ss) ss
snapshots_by ed (undoes e) w answer ss = if (same ed e) (served answer (tail ss) ss) ss
snapshots_by ed (steps_line a) w answer ss = ss
snapshots_by ed (starts o) w answer ss = []
snapshots_by ed (lends l) w answer ss = ss
snapshots_by ed plain w answer ss = ss

abbrev pub snapshots_over : Editor → List Made → List Snapshot → List Snapshot
snapshots_over ed [] ss = ss
snapshots_over ed (e ∷ es) ss = snapshots_over ed es (snapshots_by ed (sort_of e.asks) e.before e.reply.answer ss)

-- a run from reset, from any store of bytes, to a world that is lent what the last write or undo left; and the writes of this editor
-- that can then be taken back
pub record Trace (ed : Editor) (start : World) (log : List Made) (w : World) (ss : List Snapshot) : Type 0 where
  pub reached : Reached start log w
  pub bytes : Bytes start.lent.store
  pub hands : HandsOn ed log (lent_on start ed)
  pub lent-last : lent_on w ed ≡ handed_over ed log (lent_on start ed)
  pub snapshots : snapshots_over ed log [] ≡ ss

-- ---- what taking a write back comes to

-- what a channel keeps over an undo, whatever it puts back: all but its address and prescale
pub record ChannelStays (d e : Channel) : Type 0 where
  pub enabled : e.enabled ≡ d.enabled
  pub interrupt : e.interrupt ≡ d.interrupt
  pub keeps : Keeps d e

-- a chip with a store has the contents that taking the write of a snapshot back leaves on the world w: of its register those just
-- before that write, of every other register those on w
pub record Restored (s : Snapshot) (w : World) (c : Chip) (store : List ℕ) : Type 0 where
  pub own : contents c store (register_at s.address) ≡ contents s.before.chip s.before.lent.store (register_at s.address)
  pub others : (y : Register) → (y ≡ register_at s.address → ⊥) → contents c store y ≡ contents w.chip w.lent.store y

-- an undo from the world w to the world v takes the write of a snapshot back. A read by either editor shows of its register what it showed just before
-- the write, and of every other register what it showed just before the undo; so it does where a read shows DCSR, also at the write's
-- own address. All that is no register stays: lock, table, gate array, 6845 with its counters and a split address that is held, PSG, the
-- channels' progress, waiting interrupts
pub record TakesBack (s : Snapshot) (w v : World) : Type 0 where
  pub restored : Restored s w v.chip v.lent.store
  pub reads-own :
      (reader : Editor) (bus : ℕ) → shows_dcsr (register_at s.address) ≡ false →
      register_read v.chip reader v.lent.store (register_at s.address) bus
      ≡ register_read s.before.chip reader s.before.lent.store (register_at s.address) bus
  pub reads-others :
      (reader : Editor) (y : Register) (bus : ℕ) → (y ≡ register_at s.address → shows_dcsr y ≡ true) →
      register_read v.chip reader v.lent.store y bus ≡ register_read w.chip reader w.lent.store y bus
  pub lock : v.chip.lock ≡ w.chip.lock
  pub table : v.chip.editing.table ≡ w.chip.editing.table
  pub gate_array : v.chip.gate ≡ w.chip.gate
  pub crtc : v.chip.crtc ≡ w.chip.crtc
  pub psg : v.chip.sound.psg ≡ w.chip.sound.psg
  pub raster : v.chip.interrupts.raster ≡ w.chip.interrupts.raster
  pub last-raster : v.chip.interrupts.last_raster ≡ w.chip.interrupts.last_raster
  pub channel : (n : ℕ) → ChannelStays (channel_of w.chip.sound.channels n) (channel_of v.chip.sound.channels n)
