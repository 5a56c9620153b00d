-- 02, L9, L12 and L13: while a table holds, what one editor does is not felt by the other. One claim over two runs of calls.
use Rattle.std.specs.Prelude.{◌≡◌, Bool, true, List, ℕ, ◌<◌}
use Rattle.common.specs.Choice.{either, bit}
use Rattle.editors.specs.declared.Editor.{Editor}
use Rattle.editors.specs.declared.Owners.{Owners}
use Rattle.editors.specs.declared.Table.{Table}
use Rattle.editors.specs.Table.{other, holding}
use Rattle.registers.specs.declared.address.Register.{Register}
use Rattle.registers.specs.Address.{register_at}
use Rattle.registers.specs.Owners.{owns}
use Rattle.lists.specs.declared.Area.{Area}
use Rattle.chip.specs.Editors.{lists_of}
use Rattle.contents.specs.Contents.{contents}
use Rattle.contents.specs.Shown.{shows_dcsr}
use Rattle.page.specs.UndoRecord.{record_in}
use Rattle.runs.specs.World.{World, places_of, muted_of, Loan, lent_ram, lent_slots}
use Rattle.runs.specs.Call.{Call, read, write, undo, start, remove, lend, Typed}
use Rattle.runs.specs.Run.{Made, Run, Each}
use Rattle.runs.specs.Reached.{Reached}
use Rattle.runs.specs.Pair.{Beside, SameReplies, Throughout}

-- ---- the calls

-- an editor's own: its page reads, page writes and undo calls
pub data PageCall (e : Editor) : Call → Type 0 where
  reads : (a bus : ℕ) → PageCall e (read e a bus)
  writes : (a b : ℕ) → PageCall e (write e a b)
  undoes : PageCall e (undo e)

-- what an editor may read: what it owns, and DCSR, which every address of a channel shows
abbrev pub own_or_dcsr : Table → Editor → Register → Bool
own_or_dcsr t e x = either (owns t e x) (shows_dcsr x)

-- the host removes a list
pub data Removal : Call → Type 0 where
  removes : (handle : ℕ) → Removal (remove handle)

-- pixel store and both records' places are handed on from call to call; RAM and the places of lists are the host's, which may lend others
pub data HostLoan : Loan → Type 0 where
  ram : (l : List ℕ) → HostLoan (lent_ram l)
  slots : (l : List ℕ) → HostLoan (lent_slots l)

pub record HandsOn (c : Call) : Type 0 where
  pub lends : (l : Loan) → c ≡ lend l → HostLoan l

-- what is asked of each call of the two runs: its arguments are of the call's types; this editor reads only what it owns and DCSR; a
-- start gives the table that holds; and buffers are handed on. A reset is no call of a run
pub record Fair (t : Table) (e : Editor) (c : Call) : Type 0 where
  pub typed : Typed c
  pub reads : (a bus : ℕ) → c ≡ read e a bus → own_or_dcsr t e (register_at a) ≡ true
  pub starts : (o : Owners) → c ≡ start o → holding o ≡ t
  pub hands : HandsOn c

-- ---- where the two runs begin: a world reached from reset, with buffers handed on all the way, in which this table holds and IVR bit 0
-- is 1
pub record Session (t : Table) (w : World) : Type 0 where
  pub begun : World
  pub log : List Made
  pub reached : Reached begun log w
  pub hands : Each (λ m. HandsOn m.asks) log
  pub table : w.chip.editing.table ≡ t
  pub held : t.held ≡ true
  pub ivr : bit 0 w.chip.interrupts.ivr ≡ true

-- ---- what is the same

-- for an editor on two worlds: its record, the contents of every register and pixel that it owns, and whether the page is mapped
pub record SameFor (t : Table) (e : Editor) (w v : World) : Type 0 where
  pub entries : record_in w.chip e (places_of w.lent e) ≡ record_in v.chip e (places_of v.lent e)
  pub contents-owned :
      (x : Register) → owns t e x ≡ true → contents w.chip w.lent.store x ≡ contents v.chip v.lent.store x
  pub mapped : w.chip.gate.mapped ≡ v.chip.gate.mapped

-- in each run: the table holds on, and IVR never changes
pub record Stays (t : Table) (ivr : ℕ) (w : World) : Type 0 where
  pub table : w.chip.editing.table ≡ t
  pub ivr-same : w.chip.interrupts.ivr ≡ ivr

-- what placed lists are kept in: the area with its handles, their places, and RAM
pub record Room : Type 0 where
  pub lists : Area
  pub slots : List ℕ
  pub ram : List ℕ

abbrev pub room_of : World → Room
room_of w = record { lists = lists_of w.chip; slots = w.lent.slots; ram = w.lent.ram }

-- the mute marks of all three channels
abbrev pub SameMutes : World → World → Type 0
SameMutes w v = (n : ℕ) → n < 3 → muted_of w n ≡ muted_of v n

-- of two runs from one world, whose calls are the same but for the other editor's: this editor gets the same replies, call by call, and
-- all that it can tell is the same after every call, RAM and the placed lists with it, and every channel's mute mark
pub record Unaffected (t : Table) (e : Editor) (w : World) {es fs : List Made} (b : Beside (PageCall (other e)) es fs) : Type 0 where
  pub replies : SameReplies (PageCall e) b
  pub throughout : Throughout (SameFor t e) w w b
  pub room : Throughout (λ v u. room_of v ≡ room_of u) w w b
  pub mutes : Throughout SameMutes w w b
  pub first-stays : Each (λ m. Stays t w.chip.interrupts.ivr m.after) es
  pub second-stays : Each (λ m. Stays t w.chip.interrupts.ivr m.after) fs

-- ---- the claim, for either editor, where each removal by the host is answered alike in both runs
pub record Noninterference (t : Table) : Type 0 where
  pub unaffected :
      (e : Editor) {w v u : World} {es fs : List Made} → Session t w → Run w es v → Run w fs u →
      Each (λ m. Fair t e m.asks) es → Each (λ m. Fair t e m.asks) fs →
      (b : Beside (PageCall (other e)) es fs) → SameReplies Removal b → Unaffected t e w b
