-- 02, L5: over any run from reset the undo record has the former contents of each write that undo can still take back, and what is
-- known of each of them.
use mathlib.Core.Path.{◌≡◌, refl, sym, ◌∙◌}
use mathlib.Core.Bool.{Bool, true, false}
use mathlib.Core.List.{List, [], ◌∷◌, map}
use Prim.Native.Nat.{ℕ, zero, suc, ◌%◌, ◌<◌}
use native.Mathlib.Omega.{arith}
use borrow.Author.Tests.{eqb-true}
use lib.Dec.{eqb}
use lib.ListN.{length, take}
use Rattle.common.specs.Answers.{done, served}
use Rattle.common.specs.Choice.{if}
use Rattle.common.proofs.Lists.{after-set, map-take}
use Rattle.editors.specs.declared.Editor.{Editor}
use Rattle.editors.specs.declared.Owners.{Owners}
use Rattle.editors.specs.Table.{other, same}
use Rattle.editors.proofs.Which.{Which, own, another, which, same_self, same-other}
use Rattle.ring.specs.Ring.{record_of, tail}
use Rattle.chip.specs.declared.Chip.{Chip}
use Rattle.chip.specs.Editors.{undo_of, started as started_chip}
use Rattle.chip.specs.Reset.{reset_chip}
use Rattle.chip.specs.Step.{stepped as stepped_chip, counters_stepped}
use Rattle.chip.proofs.EditingLaws.{other_record, started_none, reset_none, none_kept}
use Rattle.registers.specs.declared.address.Register.{Register}
use Rattle.registers.specs.declared.address.Register.TheVariants.{Pixel, Sprite, Palette, Video, Ivr, Converter, Channel as ChannelAt, Dcsr, Status, Empty}
use Rattle.registers.specs.Address.{register_at}
use Rattle.registers.specs.Registers.{store_put}
use Rattle.contents.specs.Contents.{Holds}
use Rattle.contents.specs.Widths.{Widths, Bytes}
use Rattle.contents.proofs.WidthsLaws.{reset_widths}
use Rattle.page.specs.UndoRecord.{is_kept, entry_register_of, entry_contents, entry_at, record_in}
use Rattle.page.specs.Page.{page_written, record_after}
use Rattle.page.specs.Undo.{undone}
use Rattle.page.proofs.HoldsAt.{holds_at}
use Rattle.page.proofs.UndoLaws.{served_register}
use Rattle.runs.specs.World.{World, places_of}
use Rattle.runs.specs.Call.{Call, bc, write, undo, start, Reply, Typed, answer_to, served_world}
use Rattle.runs.specs.Sort.{sort_of, editor_in, on_edit}
use Rattle.runs.specs.Run.{Made, Makes, Run, ended, on, Each}
use Rattle.runs.specs.Trace.{Handed, lent_on, handed_to, LentTo, handed_by, handed_over, HandsOn, Snapshot, snapshots_by, snapshots_over, Trace}
use Rattle.runs.proofs.Calls.{by_answer, fixed, written, taken}
use Rattle.runs.proofs.Views.{newest_of, View, feeds, writes, undoes, steps, starts, lends, plain, view}
use Rattle.runs.proofs.Within.{call-widths}

-- the entry of a snapshot
abbrev pub entry_of : Snapshot → ℕ
entry_of s = entry_at s.before.chip s.before.lent.store s.address

-- what is known of a snapshot
pub record Known (s : Snapshot) : Type 0 where
  pub small : s.address < 65536
  pub widths : Widths s.before.chip
  pub bytes : Bytes s.before.lent.store
  pub holds : Holds (register_at s.address)
  pub kept : is_kept (register_at s.address) ≡ true

abbrev pub AllKnown : List Snapshot → Type 0
AllKnown [] = Unit {0}
AllKnown (s ∷ ss) = Known s × AllKnown ss

-- and of a chip, with the store and this editor's places that are handed on and the snapshots of the run to it
pub record Knows (ed : Editor) (c : Chip) (h : Handed) (ss : List Snapshot) : Type 0 where
  pub widths : Widths c
  pub bytes : Bytes h.store
  pub tells : record_in c ed h.places ≡ map entry_of ss
  pub each : AllKnown ss

-- ---- a call by what it is to this editor's record: its page write or its undo; one of the other editor's; a start, which empties it;
-- or one that leaves it

record Leaves (ed : Editor) (w : World) (c : Call) : Type 0 where
  none : editor_in (sort_of c) ≡ []
  undo_record : undo_of (served_world w c).chip.editing ed ≡ undo_of w.chip.editing ed
  snapshots : (answer : ℕ) (ss : List Snapshot) → snapshots_by ed (sort_of c) w answer ss ≡ ss

data Edit (ed : Editor) (w : World) : Call → Type 0 where
  wrote : (a b : ℕ) → Edit ed w (write ed a b)
  undid : Edit ed w (undo ed)
  others-wrote : (a b : ℕ) → Edit ed w (write (other ed) a b)
  others-undid : Edit ed w (undo (other ed))
  started : (o : Owners) → Edit ed w (start o)
  left : {c : Call} → Leaves ed w c → Edit ed w c

write_of : {ed f : Editor} (w : World) (a b : ℕ) → Which ed f → Edit ed w (write f a b)
write_of w a b own = wrote a b
write_of w a b another = others-wrote a b

undo_of_lem : {ed f : Editor} (w : World) → Which ed f → Edit ed w (undo f)
undo_of_lem w own = undid
undo_of_lem w another = others-undid

edit_of : (ed : Editor) {w : World} {c : Call} → View w c → Edit ed w c
unfolding stepped_chip counters_stepped
edit_of ed (feeds b l) = left {c = bc b} (record { none = refl; undo_record = l.undo_record ed; snapshots = λ n ss. refl })
edit_of ed {w} (writes f a b e) = write_of w a b (which ed f)
edit_of ed {w} (undoes f e) = undo_of_lem w (which ed f)
edit_of ed (steps {c} a l) = left {c = c} (record { none = rw l.sorts; undo_record = rw l.next; snapshots = λ n ss. rw l.sorts })
edit_of ed (starts o) = started o
edit_of ed (lends l) = left (record { none = refl; undo_record = refl; snapshots = λ n ss. refl })
edit_of ed (plain {c} s q l) = left {c = c} (record { none = rw s; undo_record = l.undo_record ed; snapshots = λ n ss. rw s })

-- ---- the store has bytes
put-bytes : (store : List ℕ) (x : Register) (v : ℕ) → v < 256 → Bytes store → Bytes (store_put store x v)
put-bytes store (Pixel i) v h s = record { each = λ j. after-set (λ b. b < 256) store i j v 0 (s.each j) (λ e. h) }
put-bytes store (Sprite n p) v h s = s
put-bytes store (Palette i) v h s = s
put-bytes store (Video r) v h s = s
put-bytes store Ivr v h s = s
put-bytes store Converter v h s = s
put-bytes store (ChannelAt n r) v h s = s
put-bytes store Dcsr v h s = s
put-bytes store Status v h s = s
put-bytes store Empty v h s = s

write_bytes : {w v : World} {e : Editor} {a b : ℕ} {r : Reply} → Makes w (write e a b) r v → Bytes w.lent.store → Bytes v.lent.store
write_bytes {w} {e = e} {a = a} {b = b} k h =
    rw (fixed k).world_is
    (by_answer (λ u. Bytes u.lent.store) w (write e a b)
    (λ z. put-bytes w.lent.store (register_at a) (b % 16) (omega arith) h) h)

undo-bytes : {w v : World} {e : Editor} {r : Reply} → Makes w (undo e) r v → Bytes w.lent.store → Bytes v.lent.store
undo-bytes {w} {e = e} k h =
    let entry = newest_of w e in
    rw (fixed k).world_is
    (by_answer (λ u. Bytes u.lent.store) w (undo e)
    (λ z. put-bytes w.lent.store (entry_register_of entry) (entry_contents entry) (omega arith) h) h)

-- ---- what is known of the snapshots

known-take : (n : ℕ) (ss : List Snapshot) → AllKnown ss → AllKnown (take n ss)
known-take zero ss e = tt
known-take (suc n) [] e = tt
known-take (suc n) (s ∷ ss) e = (e.0, known-take n ss e.1)

known-tail : (ss : List Snapshot) → AllKnown ss → AllKnown (tail ss)
known-tail [] e = tt
known-tail (s ∷ ss) e = e.1

-- ---- a page write, on the store and the places that are handed on
module _ {ed : Editor} {w v : World} {r : Reply} {a b : ℕ} (ss : List Snapshot) (k : Makes w (write ed a b) r v) (t : Typed (write ed a b))
    (s : Knows ed w.chip (lent_on w ed) ss) where
  abbrev here : Snapshot
  here = record { address = a; before = w }

  -- the snapshots after it
  abbrev now_taken : ℕ → List Snapshot
  now_taken answer = served answer (if (is_kept (register_at a)) (take 256 (here ∷ ss)) ss) ss

  write-tells : record_in v.chip ed (places_of v.lent ed) ≡ map entry_of (now_taken r.answer)
  unfolding record_after
  write-tells =
      (written k).record_after_lem
      ∙ rw ((written k).call.answer, s.tells) (go (eqb (answer_to w (write ed a b)) done) (is_kept (register_at a)))
    where
      go :
          (t k : Bool) →
          if t (if k (take 256 (entry_of here ∷ map entry_of ss)) (map entry_of ss)) (map entry_of ss)
          ≡ map entry_of (if t (if k (take 256 (here ∷ ss)) ss) ss)
      go true true = sym (map-take entry_of 256 (here ∷ ss))
      go true false = refl
      go false k = refl

  write_known : AllKnown (now_taken (answer_to w (write ed a b)))
  write_known = go (eqb (answer_to w (write ed a b)) done) refl (is_kept (register_at a)) refl
    where
      known : answer_to w (write ed a b) ≡ done → is_kept (register_at a) ≡ true → Known here
      known z k =
          record {
            small = t.0;
            widths = s.widths;
            bytes = s.bytes;
            holds = holds_at w.chip.editing.table ed a (served_register w.chip ed (length w.lent.store) a z) k;
            kept = k;
          }

      go :
          (t : Bool) → eqb (answer_to w (write ed a b)) done ≡ t → (k : Bool) → is_kept (register_at a) ≡ k →
          AllKnown (if t (if k (take 256 (here ∷ ss)) ss) ss)
      go true e true k = known-take 256 (here ∷ ss) (known (eqb-true _ _ e) k, s.each)
      go true e false k = s.each
      go false e k f = s.each

  write-knows : Knows ed v.chip (lent_on v ed) (now_taken r.answer)
  write-knows =
      record {
        widths = rw (fixed k).world_is (call-widths w (write ed a b) t s.widths);
        bytes = write_bytes k s.bytes;
        tells = write-tells;
        each = rw (fixed k).reply-is write_known;
      }

-- ---- an undo
module _ {ed : Editor} {w v : World} {r : Reply} (ss : List Snapshot) (k : Makes w (undo ed) r v) (s : Knows ed w.chip (lent_on w ed) ss) where
  undo-tells : record_in v.chip ed (places_of v.lent ed) ≡ map entry_of (served r.answer (tail ss) ss)
  undo-tells =
      let t = taken k in
      rw t.places_stay
      (t.undoes.record_after_lem ∙ rw (t.undoes.call.answer, s.tells) (go (eqb (answer_to w (undo ed)) done) ss))
    where
      go : (t : Bool) (l : List Snapshot) → if t (tail (map entry_of l)) (map entry_of l) ≡ map entry_of (if t (tail l) l)
      go true [] = refl
      go true (x ∷ l) = refl
      go false l = refl

  undo-known : AllKnown (served r.answer (tail ss) ss)
  undo-known = go (eqb r.answer done)
    where
      go : (t : Bool) → AllKnown (if t (tail ss) ss)
      go true = known-tail ss s.each
      go false = s.each

  undo-knows : Knows ed v.chip (lent_on v ed) (served r.answer (tail ss) ss)
  undo-knows =
      record {
        widths = rw (fixed k).world_is (call-widths w (undo ed) tt s.widths);
        bytes = undo-bytes k s.bytes;
        tells = undo-tells;
        each = undo-known;
      }

-- ---- the other editor's edits, which leave this one's record
module _ {ed : Editor} {w v : World} {c : Call} {r : Reply} {h : Handed} (ss : List Snapshot) (k : Makes w c r v) (t : Typed c)
    (s : Knows ed w.chip h ss) where
  others-knows :
      undo_of (served_world w c).chip.editing ed ≡ undo_of w.chip.editing ed → Bytes v.lent.store →
      Knows ed v.chip (record { store = v.lent.store; places = h.places }) ss
  unfolding record_of
  others-knows e bytes =
      record {
        widths = rw (fixed k).world_is (call-widths w c t s.widths);
        bytes = bytes;
        tells =
            rw (fixed k).world_is
            (by_answer (λ u. record_in u.chip ed h.places ≡ map entry_of ss) w c (λ z. rw e s.tells) s.tells);
        each = s.each;
      }

  -- a call that is no edit
  left-knows : undo_of (served_world w c).chip.editing ed ≡ undo_of w.chip.editing ed → Knows ed v.chip h ss
  unfolding record_of
  left-knows e =
      record {
        widths = rw (fixed k).world_is (call-widths w c t s.widths);
        bytes = s.bytes;
        tells =
            rw (fixed k).world_is
            (by_answer (λ u. record_in u.chip ed h.places ≡ map entry_of ss) w c (λ z. rw e s.tells) s.tells);
        each = s.each;
      }

-- ---- a start leaves nothing to undo
start-knows :
    {ed : Editor} {w v : World} {o : Owners} {r : Reply} {h : Handed} {ss : List Snapshot} → Makes w (start o) r v →
    Knows ed w.chip h ss → Knows ed v.chip h []
start-knows {ed} {w} {o = o} {h = h} k s =
    record {
      widths = rw (fixed k).world_is (call-widths w (start o) tt s.widths);
      bytes = s.bytes;
      tells = rw (fixed k).world_is (none_kept ed (started_chip w.chip o).editing h.places (started_none ed w.chip o));
      each = tt;
    }

-- ---- so over a call, over a run, and from reset

other-write : (ed : Editor) (w : World) (a b : ℕ) → undo_of (served_world w (write (other ed) a b)).chip.editing ed ≡ undo_of w.chip.editing ed
unfolding page_written
other-write ed w a b = other_record ed w.chip.editing _

other-undo : (ed : Editor) (w : World) → undo_of (served_world w (undo (other ed))).chip.editing ed ≡ undo_of w.chip.editing ed
unfolding undone
other-undo ed w = other_record ed w.chip.editing _

-- an edit by the test of whose it is
own_edit :
    (ed : Editor) (w v : World) (h : Handed) (ss ts : List Snapshot) (q : Bool) → q ≡ true → LentTo q w ed h →
    (Knows ed w.chip (lent_on w ed) ss → Knows ed v.chip (lent_on v ed) ts) → Knows ed w.chip h ss →
    Knows ed v.chip (handed_to q v ed h) (if q ts ss)
own_edit ed w v h ss ts true e lent f s = f (rw (← lent) at s)
own_edit ed w v h ss ts false e lent f s = absurd (let z : ◌≡◌ {A = ℕ} 0 1 = cc in omega arith)

other_edit :
    (ed : Editor) (w v : World) (h : Handed) (ss ts : List Snapshot) (q : Bool) → q ≡ false → LentTo q w ed h →
    (w.lent.store ≡ h.store → Knows ed v.chip (record { store = v.lent.store; places = h.places }) ss) →
    Knows ed v.chip (handed_to q v ed h) (if q ts ss)
other_edit ed w v h ss ts true e lent f = absurd (let z : ◌≡◌ {A = ℕ} 0 1 = cc in omega arith)
other_edit ed w v h ss ts false e lent f = f lent

call-knows :
    {ed : Editor} {w v : World} {c : Call} {r : Reply} (h : Handed) (ss : List Snapshot) → Edit ed w c → Makes w c r v → Typed c →
    on_edit (λ f. LentTo (same ed f) w ed h) (Unit {0}) c → Knows ed w.chip h ss →
    Knows ed v.chip (handed_by ed (record { before = w; asks = c; reply = r; after = v }) h) (snapshots_by ed (sort_of c) w r.answer ss)
call-knows {ed} {w} {v} h ss (wrote a b) k t lent s =
    own_edit ed w v h ss _ (same ed ed) (same_self ed) lent (λ q. write-knows ss k t q) s
call-knows {ed} {w} {v} h ss undid k t lent s =
    own_edit ed w v h ss _ (same ed ed) (same_self ed) lent (λ q. undo-knows ss k q) s
call-knows {ed} {w} {v} h ss (others-wrote a b) k t lent s =
    other_edit ed w v h ss _ (same ed (other ed)) (same-other ed) lent
    (λ e. others-knows ss k t s (other-write ed w a b) (write_bytes k (rw e s.bytes)))
call-knows {ed} {w} {v} h ss others-undid k t lent s =
    other_edit ed w v h ss _ (same ed (other ed)) (same-other ed) lent
    (λ e. others-knows ss k t s (other-undo ed w) (undo-bytes k (rw e s.bytes)))
call-knows h ss (started o) k t lent s = start-knows k s
call-knows {r = r} h ss (left l) k t lent s = rw (l.none, l.snapshots r.answer ss) (left-knows ss k t s l.undo_record)

run-knows :
    {ed : Editor} {w v : World} {es : List Made} (h : Handed) (ss : List Snapshot) → Run w es v → Each (λ e. Typed e.asks) es →
    HandsOn ed es h → Knows ed w.chip h ss → Knows ed v.chip (handed_over ed es h) (snapshots_over ed es ss)
run-knows h ss ended t hands s = s
run-knows {ed} h ss (on {w} {v} {c = c} {r = r} k rest) t hands s =
    run-knows (handed_by ed (record { before = w; asks = c; reply = r; after = v }) h) (snapshots_by ed (sort_of c) w r.answer ss) rest t.1
    hands.1 (call-knows h ss (edit_of ed (view w c)) k t.0 hands.0 s)

pub knows : {ed : Editor} {start w : World} {log : List Made} {ss : List Snapshot} → Trace ed start log w ss → Knows ed w.chip (lent_on w ed) ss
knows {ed} {start} t =
    let fresh = t.reached.fresh in
    rw (← t.snapshots, t.lent-last)
    (run-knows (lent_on start ed) [] t.reached.run t.reached.typed t.hands
    (record {
      widths = rw fresh.chip reset_widths;
      bytes = t.bytes;
      tells = rw fresh.chip (none_kept ed reset_chip.editing (places_of start.lent ed) (reset_none ed));
      each = tt;
    }))
