-- From reset on each editor's record has only registers that the editor owns; and while a table holds, the table and IVR stay.
use mathlib.Core.Path.{◌≡◌, refl, ap, ◌∙◌}
use mathlib.Core.Bool.{Bool, true, false}
use mathlib.Core.List.{List, [], ◌∷◌}
use Prim.Native.Nat.{ℕ, zero, suc, ◌<◌}
use native.Mathlib.Omega.{arith}
use borrow.Author.Tests.{eqb-true}
use lib.Dec.{eqb}
use lib.ListN.{length, take}
use Rattle.common.specs.Answers.{done}
use Rattle.common.specs.Choice.{if}
use Rattle.editors.specs.declared.Editor.{Editor}
use Rattle.editors.specs.declared.Owners.{Owners}
use Rattle.editors.specs.declared.Table.{Table}
use Rattle.editors.specs.Table.{other, holding}
use Rattle.editors.proofs.Which.{Which, own, another, which}
use Rattle.ring.specs.Ring.{entries, record_of, head, tail}
use Rattle.chip.specs.declared.Chip.{Chip}
use Rattle.chip.specs.declared.Editing.{Editing}
use Rattle.chip.specs.Reset.{reset_chip}
use Rattle.chip.specs.Editors.{undo_of, no_entries, started}
use Rattle.chip.specs.Step.{stepped, counters_stepped}
use Rattle.chip.proofs.EditingLaws.{other_record, started_none, reset_none, none_kept}
use Rattle.registers.specs.declared.address.Register.{Register}
use Rattle.registers.specs.declared.address.Register.TheVariants.{Pixel, Sprite, Palette, Video, Ivr, Converter, Channel, Dcsr, Status, Empty}
use Rattle.registers.specs.Address.{register_at}
use Rattle.registers.specs.Owners.{owns}
use Rattle.registers.specs.Registers.{register_answer, register_written}
use Rattle.contents.specs.Contents.{contents}
use Rattle.page.specs.UndoRecord.{is_kept, entry_at, entry_register_of, entry_contents, record_in}
use Rattle.page.specs.Page.{page_written, record_after}
use Rattle.page.specs.Undo.{undone}
use Rattle.page.proofs.UndoLaws.{entry_register, undo-served, served_register}
use Rattle.runs.specs.World.{World, places_of, Loan}
use Rattle.runs.specs.Call.{Call, write, undo, start, lend, Reply, Typed, answer_to, served_world, world_after}
use Rattle.runs.specs.Run.{Made, Makes, Run, ended, on, Each}
use Rattle.runs.proofs.Calls.{by_answer, fixed, other-places, written, taken}
use Rattle.runs.proofs.Views.{newest_of, View, feeds, writes, undoes, steps, starts, lends, plain, view}
use Rattle.noninterference.specs.TwoRuns.{HostLoan, ram, slots, HandsOn, Fair, Stays}
use Rattle.noninterference.proofs.Sames.{clash}
use Rattle.noninterference.proofs.Puts.{answer-owns, ivr_not}

-- ---- every entry of a list names a register of the editor's
pub data AllOwn (t : Table) (e : Editor) : List ℕ → Type 0 where
  none : AllOwn t e []
  more : {x : ℕ} {l : List ℕ} → owns t e (entry_register_of x) ≡ true → AllOwn t e l → AllOwn t e (x ∷ l)

own-take : {t : Table} {e : Editor} {l : List ℕ} (n : ℕ) → AllOwn t e l → AllOwn t e (take n l)
own-take zero o = none
own-take (suc n) none = none
own-take (suc n) (more h o) = more h (own-take n o)

own-tail : {t : Table} {e : Editor} {l : List ℕ} → AllOwn t e l → AllOwn t e (tail l)
own-tail none = none
own-tail (more h o) = o

-- the record of an editor on a world
abbrev pub record_on : World → Editor → List ℕ
record_on w g = record_in w.chip g (places_of w.lent g)

-- by the table of the world
pub record Owned (w : World) : Type 0 where
  pub each : (g : Editor) → AllOwn w.chip.editing.table g (record_on w g)

-- ---- a register that is kept and that the editor may write is its own
pub may_own : (t : Table) (e : Editor) (x : Register) → register_answer t e x ≡ done → is_kept x ≡ true → owns t e x ≡ true
may_own t e (Pixel i) h k = answer-owns _ h
may_own t e (Sprite n p) h k = answer-owns _ h
may_own t e (Palette i) h k = answer-owns _ h
may_own t e (Video v) h k = answer-owns _ h
may_own t e Ivr h k = answer-owns _ h
may_own t e Converter h k = absurd (omega arith)
may_own t e (Channel n r) h k = answer-owns _ h
may_own t e Dcsr h k = clash k refl
may_own t e Status h k = absurd (omega arith)
may_own t e Empty h k = absurd (omega arith)

-- and one that it owns it may write
pub own_may : (t : Table) (e : Editor) (x : Register) → owns t e x ≡ true → register_answer t e x ≡ done
own_may t e (Pixel i) h = rw h
own_may t e (Sprite n p) h = rw h
own_may t e (Palette i) h = rw h
own_may t e (Video v) h = rw h
own_may t e Ivr h = rw h
own_may t e Converter h = clash h refl
own_may t e (Channel n r) h = rw h
own_may t e Dcsr h = clash h refl
own_may t e Status h = clash h refl
own_may t e Empty h = clash h refl

-- ---- what each call does to the records

-- a write of the editor's
write-own :
    {w v : World} {g : Editor} {a b : ℕ} {r : Reply} → Makes w (write g a b) r v → a < 65536 → Owned w →
    AllOwn w.chip.editing.table g (record_on v g)
unfolding record_after
write-own {w} {v} {g} {a} {b} k small o = rw (written k).record_after_lem (go (eqb (answer_to w (write g a b)) done) refl (is_kept (register_at a)) refl)
  where
    go :
        (i : Bool) → eqb (answer_to w (write g a b)) done ≡ i → (j : Bool) → is_kept (register_at a) ≡ j →
        AllOwn w.chip.editing.table g
        (if i (if j (take 256 (entry_at w.chip w.lent.store a ∷ record_on w g)) (record_on w g)) (record_on w g))
    go true h true kept =
        own-take 256
        (more
        (rw (entry_register a (contents w.chip w.lent.store (register_at a)) small)
        (may_own w.chip.editing.table g (register_at a) (served_register w.chip g (length w.lent.store) a (eqb-true _ _ h)) kept))
        (o.each g))
    go true h false kept = o.each g
    go false h j kept = o.each g

undo-own : {w v : World} {g : Editor} {r : Reply} → Makes w (undo g) r v → Owned w → AllOwn w.chip.editing.table g (record_on v g)
undo-own {w} {v} {g} k o = rw ((taken k).places_stay, (taken k).undoes.record_after_lem) (go (eqb (answer_to w (undo g)) done))
  where
    go : (i : Bool) → AllOwn w.chip.editing.table g (if i (tail (record_on w g)) (record_on w g))
    go true = own-tail (o.each g)
    go false = o.each g

-- a record whose state and places are as they were
same_record :
    (w : World) (t : Table) (g : Editor) (v : World) → undo_of v.chip.editing g ≡ undo_of w.chip.editing g →
    places_of v.lent g ≡ places_of w.lent g → AllOwn t g (record_on w g) → AllOwn t g (record_on v g)
unfolding record_of
same_record w t g v i j o = rw (i, j) o

-- the other editor's record over an edit
write-beside :
    (w : World) (g : Editor) (a b : ℕ) (t : Table) → AllOwn t g (record_on w g) → AllOwn t g (record_on (world_after w (write (other g) a b)) g)
unfolding page_written
write-beside w g a b t o =
    by_answer (λ u. AllOwn t g (record_on u g)) w (write (other g) a b)
    (λ z. same_record w t g (served_world w (write (other g) a b)) (other_record g w.chip.editing _) (other-places w g w.chip w.lent.store _) o) o

undo-beside :
    (w : World) (g : Editor) (t : Table) → AllOwn t g (record_on w g) → AllOwn t g (record_on (world_after w (undo (other g))) g)
unfolding undone
undo-beside w g t o =
    by_answer (λ u. AllOwn t g (record_on u g)) w (undo (other g))
    (λ z. same_record w t g (served_world w (undo (other g))) (other_record g w.chip.editing _) (other-places w g w.chip w.lent.store _) o) o

-- an edit by whose record is looked at
write-each :
    {w v : World} {f g : Editor} {a b : ℕ} {r : Reply} → Makes w (write f a b) r v → a < 65536 → Owned w → Which g f →
    AllOwn w.chip.editing.table g (record_on v g)
write-each k small o own = write-own k small o
write-each {w} {g = g} {a = a} {b = b} k small o another =
    rw (fixed k).world_is (write-beside w g a b w.chip.editing.table (o.each g))

undo-each :
    {w v : World} {f g : Editor} {r : Reply} → Makes w (undo f) r v → Owned w → Which g f → AllOwn w.chip.editing.table g (record_on v g)
undo-each k o own = undo-own k o
undo-each {w} {g = g} k o another = rw (fixed k).world_is (undo-beside w g w.chip.editing.table (o.each g))

-- an edit leaves the table
write-table : (w : World) (f : Editor) (a b : ℕ) → (world_after w (write f a b)).chip.editing.table ≡ w.chip.editing.table
unfolding page_written
write-table w f a b = by_answer (λ u. u.chip.editing.table ≡ w.chip.editing.table) w (write f a b) (λ z. refl) refl

undo-table : (w : World) (f : Editor) → (world_after w (undo f)).chip.editing.table ≡ w.chip.editing.table
unfolding undone
undo-table w f = by_answer (λ u. u.chip.editing.table ≡ w.chip.editing.table) w (undo f) (λ z. refl) refl

-- the invariant with another table name
owned_by : {v : World} {t : Table} → v.chip.editing.table ≡ t → ((g : Editor) → AllOwn t g (record_on v g)) → Owned v
owned_by {v} {t} i f = record { each = λ g. go v.chip.editing.table i g }
  where
    go : (y : Table) → y ≡ t → (g : Editor) → AllOwn y g (record_on v g)
    go y i g = rw i (f g)

-- an empty record
empty_own : {t : Table} {g : Editor} (x : Editing) (places : List ℕ) → undo_of x g ≡ no_entries → AllOwn t g (record_of (undo_of x g) places)
empty_own {g = g} x places i = rw (none_kept g x places i) none

pub reset_owned : {w : World} → w.chip ≡ reset_chip → Owned w
reset_owned {w} i = record { each = λ g. go w.chip i g }
  where
    go : (c : Chip) → c ≡ reset_chip → (g : Editor) → AllOwn c.editing.table g (record_in c g (places_of w.lent g))
    go c j g = rw j (empty_own reset_chip.editing (places_of w.lent g) (reset_none g))

-- ---- so over every call

-- one that leaves the table and the records
unmoved :
    {w v : World} {c : Call} {r : Reply} → Makes w c r v → (served_world w c).chip.editing.table ≡ w.chip.editing.table →
    ((g : Editor) → undo_of (served_world w c).chip.editing g ≡ undo_of w.chip.editing g) →
    ((g : Editor) → places_of (served_world w c).lent g ≡ places_of w.lent g) → Owned w → Owned v
unfolding record_of
unmoved {w} {c = c} k t i j o =
    rw (fixed k).world_is (by_answer Owned w c (λ z. record { each = λ g. rw (t, i g, j g) (o.each g) }) o)

host_places : (w : World) (l : Loan) → HostLoan l → (g : Editor) → places_of (served_world w (lend l)).lent g ≡ places_of w.lent g
host_places w l (ram x) g = refl
host_places w l (slots x) g = refl

pub own-step : {w v : World} {c : Call} {r : Reply} → View w c → Makes w c r v → Typed c → HandsOn c → Owned w → Owned v
unfolding stepped counters_stepped started
own-step (feeds b l) k t h o = unmoved k l.table l.undo_record l.places o
own-step {w} (writes f a b e) k t h o =
    owned_by (ap (λ (u : World). u.chip.editing.table) (fixed k).world_is ∙ write-table w f a b) (λ g. write-each k t.0 o (which g f))
own-step {w} (undoes f e) k t h o =
    owned_by (ap (λ (u : World). u.chip.editing.table) (fixed k).world_is ∙ undo-table w f) (λ g. undo-each k o (which g f))
own-step (steps a l) k t h o = unmoved k (rw l.next) (λ g. rw l.next) (λ g. rw l.next) o
own-step {w} (starts q) k t h o =
    rw (fixed k).world_is
    (record { each = λ g. empty_own (started w.chip q).editing (places_of w.lent g) (started_none g w.chip q) })
own-step {w} (lends l) k t h o = unmoved k refl (λ g. refl) (host_places w l (h.lends l refl)) o
own-step (plain s q l) k t h o = unmoved k l.table l.undo_record l.places o

-- and over a run
pub run-owned :
    {w v : World} {es : List Made} → Run w es v → Each (λ m. Typed m.asks) es → Each (λ m. HandsOn m.asks) es → Owned w → Owned v
run-owned ended t h o = o
run-owned (on {w} {c = c} k rest) t h o = run-owned rest t.1 h.1 (own-step (view w c) k t.0 h.0 o)

-- ---- while a table holds, the table and IVR stay

-- a byte put where the editor may write
ivr-put :
    (t : Table) → t.held ≡ true → (c : Chip) (e : Editor) (x : Register) (b : ℕ) → register_answer t e x ≡ done →
    (register_written c e x b).interrupts.ivr ≡ c.interrupts.ivr
ivr-put t held c e (Pixel i) b h = refl
ivr-put t held c e (Sprite n p) b h = refl
ivr-put t held c e (Palette i) b h = refl
ivr-put t held c e (Video v) b h = refl
ivr-put t held c e Ivr b h = ivr_not t e held h
ivr-put t held c e Converter b h = refl
ivr-put t held c e (Channel n r) b h = refl
ivr-put t held c e Dcsr b h = refl
ivr-put t held c e Status b h = refl
ivr-put t held c e Empty b h = refl

-- the newest entry of a record that has one
first-own :
    (t : Table) (e : Editor) (places : List ℕ) (place n : ℕ) → (n ≡ 0 → ⊥) → AllOwn t e (entries places place n) →
    owns t e (entry_register_of (head (entries places place n))) ≡ true
unfolding entries
first-own t e places place zero h o = absurd (h refl)
first-own t e places place (suc n) h (more w o) = w

-- what a served undo takes back is a register that the editor may write
pub newest_may :
    (t : Table) (w : World) (e : Editor) → AllOwn t e (record_on w e) → answer_to w (undo e) ≡ done →
    register_answer t e (entry_register_of (newest_of w e)) ≡ done
unfolding record_of
newest_may t w e o z =
    let u = undo_of w.chip.editing e in
    own_may t e (entry_register_of (newest_of w e))
    (first-own t e (places_of w.lent e) u.next u.count (undo-served w.chip e (length w.lent.store) z).1 o)

-- and what a served write writes
pub written_may :
    (t : Table) (w : World) (e : Editor) (a b : ℕ) → w.chip.editing.table ≡ t → answer_to w (write e a b) ≡ done →
    register_answer t e (register_at a) ≡ done
written_may t w e a b i z = go w.chip.editing.table i (served_register w.chip e (length w.lent.store) a z)
  where
    go : (y : Table) → y ≡ t → register_answer y e (register_at a) ≡ done → register_answer t e (register_at a) ≡ done
    go y j h = rw j at h

-- the invariant with the table that holds
pub own_as : {w : World} {t : Table} → w.chip.editing.table ≡ t → Owned w → (g : Editor) → AllOwn t g (record_on w g)
own_as {w} {t} i o g = go w.chip.editing.table i (o.each g)
  where
    go : (y : Table) → y ≡ t → AllOwn y g (record_on w g) → AllOwn t g (record_on w g)
    go y j h = rw j at h

-- a call that leaves both
both_stay :
    {w v : World} {c : Call} {r : Reply} {t : Table} {i : ℕ} → Makes w c r v → (served_world w c).chip.editing.table ≡ w.chip.editing.table →
    (served_world w c).chip.interrupts.ivr ≡ w.chip.interrupts.ivr → Stays t i w → Stays t i v
both_stay {w} {c = c} {t = t} {i = i} k p q s =
    rw (fixed k).world_is
    (by_answer (Stays t i) w c (λ z. record { table = p ∙ s.table; ivr-same = q ∙ s.ivr-same }) s)

write-stays :
    {w v : World} {e : Editor} {a b : ℕ} {r : Reply} {t : Table} {i : ℕ} → t.held ≡ true → Makes w (write e a b) r v → Stays t i w → Stays t i v
unfolding page_written
write-stays {w} {e = e} {a = a} {b = b} {t = t} {i = i} held k s =
    rw (fixed k).world_is
    (by_answer (Stays t i) w (write e a b)
    (λ z.
    record {
      table = s.table;
      ivr-same = ivr-put t held w.chip e (register_at a) b (written_may t w e a b s.table z) ∙ s.ivr-same;
    }) s)

undo-stays :
    {w v : World} {e : Editor} {r : Reply} {t : Table} {i : ℕ} → t.held ≡ true → Makes w (undo e) r v → Owned w → Stays t i w → Stays t i v
unfolding undone
undo-stays {w} {e = e} {t = t} {i = i} held k o s =
    let x = newest_of w e in
    rw (fixed k).world_is
    (by_answer (Stays t i) w (undo e)
    (λ z.
    record {
      table = s.table;
      ivr-same =
          ivr-put t held w.chip e (entry_register_of x) (entry_contents x) (newest_may t w e (own_as s.table o e) z) ∙ s.ivr-same;
    }) s)

start-stays :
    {w v : World} {o : Owners} {r : Reply} {t : Table} {i : ℕ} → Makes w (start o) r v → holding o ≡ t → Stays t i w → Stays t i v
unfolding started
start-stays {t = t} {i = i} k q s = rw (fixed k).world_is (record { table = q; ivr-same = s.ivr-same })

pub stays_step :
    {w v : World} {c : Call} {r : Reply} {t : Table} {e : Editor} {i : ℕ} → t.held ≡ true → View w c → Makes w c r v → Fair t e c →
    Owned w → Stays t i w → Stays t i v
unfolding stepped counters_stepped
stays_step held (feeds b l) k f o s = both_stay k l.table l.ivr s
stays_step held (writes g a b e) k f o s = write-stays held k s
stays_step held (undoes g e) k f o s = undo-stays held k o s
stays_step held (steps a l) k f o s = both_stay k (rw l.next) (rw l.next) s
stays_step held (starts q) k f o s = start-stays k (f.starts q refl) s
stays_step held (lends l) k f o s = both_stay k refl refl s
stays_step held (plain p q l) k f o s = both_stay k l.table l.ivr s
