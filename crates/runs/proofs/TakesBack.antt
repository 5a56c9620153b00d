-- 02, L5: each undo takes back the write of the newest snapshot, whatever has come between; and with nothing in between, bit for bit.
use mathlib.Core.Path.{◌≡◌, refl, ap, sym, ◌∙◌}
use mathlib.Core.Bool.{Bool, true, false}
use mathlib.Core.List.{List, [], ◌∷◌}
use Prim.Native.Nat.{ℕ, zero, suc, ◌<◌}
use native.Mathlib.Omega.{arith}
use borrow.Author.Tests.{eq-eqb}
use lib.ListN.{length, take}
use Rattle.common.specs.Answers.{done}
use Rattle.common.proofs.Lists.{after-set}
use Rattle.editors.specs.declared.Editor.{Editor}
use Rattle.ring.specs.declared.Undo.{Undo}
use Rattle.ring.specs.Ring.{entries, record_of, head, popped}
use Rattle.sound.specs.declared.Channel.{Channel}
use Rattle.sound.specs.Line.{channel_of, off_channel}
use Rattle.chip.specs.declared.Chip.{Chip}
use Rattle.chip.specs.State.{with_editing}
use Rattle.chip.specs.Editors.{undo_of, editing_with}
use Rattle.registers.specs.declared.address.ChannelRegister.{ChannelRegister}
use Rattle.registers.specs.declared.address.ChannelRegister.TheVariants.{StartLow, StartHigh, Prescale}
use Rattle.registers.specs.declared.address.Register.{Register}
use Rattle.registers.specs.declared.address.Register.TheVariants.{Pixel, Sprite, Palette, Video, Ivr, Converter, Channel as ChannelAt, Dcsr, Status, Empty}
use Rattle.registers.specs.Address.{register_at}
use Rattle.registers.specs.Registers.{channel_written, register_written, store_put, dcsr, register_read}
use Rattle.contents.specs.Contents.{contents}
use Rattle.contents.specs.Shown.{shows_dcsr}
use Rattle.contents.specs.Widths.{Widths}
use Rattle.contents.proofs.WidthsLaws.{contents-small}
use Rattle.contents.proofs.ContentsLaws.{other-stays, put-contents}
use Rattle.contents.proofs.Shows.{same-own, same-dcsr}
use Rattle.page.specs.UndoRecord.{is_kept, entry_at, record_in}
use Rattle.page.specs.Page.{record_after}
use Rattle.page.specs.Undo.{newest, undone}
use Rattle.page.proofs.UndoLaws.{unrecorded, entry_register, entry-contents, undo-served, served_register, chip-again, store-again}
use Rattle.runs.specs.World.{World, places_of, edited}
use Rattle.runs.specs.Call.{write, undo, Reply}
use Rattle.runs.specs.Run.{Made, Makes}
use Rattle.runs.specs.Trace.{lent_on, Snapshot, Trace, ChannelStays, Restored, TakesBack}
use Rattle.runs.proofs.Calls.{fixed, served-answer, served-is, written}
use Rattle.runs.proofs.Within.{call-widths}
use Rattle.runs.proofs.Traces.{Known, Knows, knows}

-- ---- what is no register stays

record Stays (c d : Chip) : Type 0 where
  lock : d.lock ≡ c.lock
  table : d.editing.table ≡ c.editing.table
  gate : d.gate ≡ c.gate
  crtc : d.crtc ≡ c.crtc
  psg : d.sound.psg ≡ c.sound.psg
  raster : d.interrupts.raster ≡ c.interrupts.raster
  last-raster : d.interrupts.last_raster ≡ c.interrupts.last_raster
  channel : (n : ℕ) → ChannelStays (channel_of c.sound.channels n) (channel_of d.sound.channels n)

moved : (d : Channel) {address prescale : ℕ} →
    ChannelStays d
    (record {
      enabled = d.enabled;
      interrupt = d.interrupt;
      address = address;
      prescale = prescale;
      pause = d.pause;
      count = d.count;
      counter = d.counter;
      mark = d.mark;
      muted = d.muted;
    })
moved d = record { enabled = refl; interrupt = refl; keeps = record { pause = refl; count = refl; counter = refl; mark = refl } }

channel-moved : (d : Channel) (r : ChannelRegister) (b : ℕ) → ChannelStays d (channel_written d r b)
channel-moved d StartLow b = moved d
channel-moved d StartHigh b = moved d
channel-moved d Prescale b = moved d

-- a chip whose sound is as it was
quiet : (c d : Chip) → d.lock ≡ c.lock → d.editing ≡ c.editing → d.gate ≡ c.gate → d.crtc ≡ c.crtc → d.sound ≡ c.sound →
    d.interrupts.raster ≡ c.interrupts.raster → d.interrupts.last_raster ≡ c.interrupts.last_raster → Stays c d
quiet c d l m g k s r q =
    record {
      lock = l;
      table = rw m;
      gate = g;
      crtc = k;
      psg = rw s;
      raster = r;
      last-raster = q;
      channel = λ n. rw s (moved (channel_of c.sound.channels n));
    }

write-stays : (c : Chip) (ed : Editor) (x : Register) (b : ℕ) → is_kept x ≡ true → Stays c (register_written c ed x b)
write-stays c ed (Pixel i) b k = quiet c c refl refl refl refl refl refl refl
write-stays c ed (Sprite n p) b k = quiet c (register_written c ed (Sprite n p) b) refl refl refl refl refl refl refl
write-stays c ed (Palette i) b k = quiet c (register_written c ed (Palette i) b) refl refl refl refl refl refl refl
write-stays c ed (Video v) b k = quiet c (register_written c ed (Video v) b) refl refl refl refl refl refl refl
write-stays c ed Ivr b k = quiet c (register_written c ed Ivr b) refl refl refl refl refl refl refl
write-stays c ed Converter b k = quiet c c refl refl refl refl refl refl refl
write-stays c ed (ChannelAt n r) b k =
    record {
      lock = refl;
      table = refl;
      gate = refl;
      crtc = refl;
      psg = refl;
      raster = refl;
      last-raster = refl;
      channel =
          λ m.
          after-set (λ e. ChannelStays (channel_of c.sound.channels m) e) c.sound.channels n m _ off_channel
          (moved (channel_of c.sound.channels m))
          (λ e. rw e (channel-moved (channel_of c.sound.channels n) r b));
    }
write-stays c ed Dcsr b k = absurd (let z : ◌≡◌ {A = ℕ} 0 1 = cc in omega arith)
write-stays c ed Status b k = quiet c c refl refl refl refl refl refl refl
write-stays c ed Empty b k = quiet c c refl refl refl refl refl refl refl

-- ---- an undo

-- DCSR reads as it did, to either editor
dcsr-stays : (c d : Chip) (reader : Editor) → Stays c d → dcsr d reader ≡ dcsr c reader
unfolding dcsr
dcsr-stays c d reader s =
    rw (
      s.table,
      s.last-raster,
      (s.channel 0).interrupt,
      (s.channel 1).interrupt,
      (s.channel 2).interrupt,
      (s.channel 2).enabled,
      (s.channel 1).enabled,
      (s.channel 0).enabled,
    )

module _ {ed : Editor} {w v : World} {r : Reply} {m : Snapshot} {ms : List Snapshot} (s : Knows ed w.chip (lent_on w ed) (m ∷ ms))
    (k : Makes w (undo ed) r v) (z : r.answer ≡ done) where
  x : Register
  x = register_at m.address

  value : ℕ
  value = contents m.before.chip m.before.lent.store x

  known : Known m
  known = s.each.0

  byte : value < 256
  unfolding value known
  byte = contents-small m.before.chip m.before.lent.store known.widths known.bytes x

  -- the chip after it, with this record
  abbrev next : Undo → Chip
  next u = with_editing (register_written w.chip ed x value) (editing_with w.chip.editing ed u)

  -- the world after it
  after_is : v ≡ edited w ed (next (popped (undo_of w.chip.editing ed))) (store_put w.lent.store x value) (places_of w.lent ed)
  unfolding undone x value known
  after_is =
      served-is k z
      ∙ rw (
        s.tells,
        entry_register m.address value known.small,
        entry-contents m.address value byte,
      )

  restored : Restored m w v.chip v.lent.store
  unfolding x value known
  restored =
      let size = (undo-served w.chip ed (length w.lent.store) (sym (served-answer k) ∙ z)).0 in
      rw after_is
      (record {
        own =
            unrecorded (register_written w.chip ed x value) (editing_with w.chip.editing ed (popped (undo_of w.chip.editing ed))) (store_put w.lent.store x value) x
            ∙ put-contents w.chip m.before.chip ed w.lent.store m.before.lent.store x s.widths size byte known.holds;
        others =
            λ y apart.
            unrecorded (register_written w.chip ed x value) (editing_with w.chip.editing ed (popped (undo_of w.chip.editing ed))) (store_put w.lent.store x value) y
            ∙ other-stays w.chip ed w.lent.store s.widths x value value byte y apart;
      })

  stays : Stays w.chip v.chip
  unfolding x value known
  stays =
      let t : Stays w.chip (register_written w.chip ed x value) = write-stays w.chip ed x value known.kept in
      rw after_is
      (record {
        lock = t.lock;
        table = refl;
        gate = t.gate;
        crtc = t.crtc;
        psg = t.psg;
        raster = t.raster;
        last-raster = t.last-raster;
        channel = t.channel;
      })

  after-widths : Widths v.chip
  after-widths = rw (fixed k).world_is (call-widths w (undo ed) tt s.widths)

  others-read :
      (reader : Editor) (y : Register) (bus : ℕ) → (y ≡ register_at m.address → shows_dcsr y ≡ true) →
      register_read v.chip reader v.lent.store y bus ≡ register_read w.chip reader w.lent.store y bus
  others-read reader y bus apart = go (shows_dcsr y) refl
    where
      go : (t : Bool) → shows_dcsr y ≡ t → register_read v.chip reader v.lent.store y bus ≡ register_read w.chip reader w.lent.store y bus
      go true e = same-dcsr v.chip w.chip reader v.lent.store w.lent.store after-widths s.widths y bus (dcsr-stays _ _ reader stays) e
      go false e =
          let no_own : y ≡ register_at m.address → ⊥ = λ q. let p : true ≡ false = sym (apart q) ∙ e in absurd (let z : ◌≡◌ {A = ℕ} 0 1 = cc in omega arith) in
          same-own v.chip w.chip reader v.lent.store w.lent.store after-widths s.widths y bus e (restored.others y no_own)

  one-undo : TakesBack m w v
  unfolding known
  one-undo =
      record {
        restored = restored;
        reads-own =
            λ reader bus e.
            same-own v.chip m.before.chip reader v.lent.store m.before.lent.store after-widths known.widths
            (register_at m.address) bus e restored.own;
        reads-others = others-read;
        lock = stays.lock;
        table = stays.table;
        gate_array = stays.gate;
        crtc = stays.crtc;
        psg = stays.psg;
        raster = stays.raster;
        last-raster = stays.last-raster;
        channel = stays.channel;
      }

-- each undo of an editor's takes back the write of its newest snapshot left
pub takes_back :
    {ed : Editor} {start w v : World} {log : List Made} {m : Snapshot} {ms : List Snapshot} {r : Reply} → Trace ed start log w (m ∷ ms) →
    Makes w (undo ed) r v → r.answer ≡ done → TakesBack m w v
takes_back s k z = one-undo (knows s) k z

-- with none left nothing is undone
empty_record : (places : List ℕ) (next n : ℕ) → entries places next n ≡ [] → n ≡ 0
unfolding entries
empty_record places next zero e = refl
empty_record places next (suc n) e = absurd (let q : ◌≡◌ {A = ℕ} 0 1 = cc in omega arith)

pub none_left :
    {ed : Editor} {start w v : World} {log : List Made} {r : Reply} → Trace ed start log w [] → Makes w (undo ed) r v → r.answer ≡ done → ⊥
unfolding record_of
none_left {ed} {w = w} s k z =
    let u = undo_of w.chip.editing ed in
    (undo-served w.chip ed (length w.lent.store) (sym (served-answer k) ∙ z)).1
    (empty_record (places_of w.lent ed) u.next u.count (knows s).tells)

-- with nothing in between, a kept write and its undo leave chip and store as they were, but for the record
pub at_once :
    {ed : Editor} {start w v u : World} {log : List Made} {ms : List Snapshot} {r q : Reply} (a b : ℕ) → Trace ed start log w ms →
    a < 65536 → b < 256 → Makes w (write ed a b) r v → r.answer ≡ done → is_kept (register_at a) ≡ true →
    Makes v (undo ed) q u → q.answer ≡ done →
    (with_editing u.chip w.chip.editing ≡ w.chip) × (u.lent.store ≡ w.lent.store)
unfolding record_after
at_once {ed} {w = w} {v = v} {u = u} a b s small below k z kept l y =
    let answer = sym (served-answer k) ∙ z in
    let record_is :
    record_in v.chip ed (places_of v.lent ed)
    ≡ take 256 (entry_at w.chip w.lent.store a ∷ record_in w.chip ed (places_of w.lent ed)) =
    (written k).record_after_lem ∙ simp (eq-eqb _ _ answer, kept) in
    let newest-is : newest v.chip ed (places_of v.lent ed) ≡ entry_at w.chip w.lent.store a = ap head record_is in
    let after = served-is k z in
    let back = served-is l y in
    let widths = (knows s).widths in
    let value = contents-small w.chip w.lent.store widths (knows s).bytes (register_at a) in
    let there = served_register w.chip ed (length w.lent.store) a answer in (
      rw (back, newest-is, after) (chip-again w.chip ed w.lent.store a b small below widths value there kept),
      rw (back, newest-is, after) (store-again w.chip ed w.lent.store a b small below widths value there kept),
    )
