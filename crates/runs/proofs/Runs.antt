-- What holds of every call holds of every run.
use mathlib.Core.Path.{◌≡◌, refl, ap, ◌∙◌}
use mathlib.Core.List.{List, [], ◌∷◌, ◌++◌}
use mathlib.Core.Bool.{Bool, true, false}
use Prim.Native.Nat.{ℕ, ◌%◌}
use lib.ListN.{length, set, length-set}
use Rattle.common.specs.Choice.{if}
use Rattle.editors.specs.declared.Editor.{Editor}
use Rattle.editors.specs.declared.Editor.TheVariants.{Song, Picture}
use Rattle.chip.specs.declared.Chip.{Chip}
use Rattle.chip.specs.Editors.{undo_of}
use Rattle.registers.specs.Address.{register_at}
use Rattle.page.specs.UndoRecord.{is_kept, entry_at}
use Rattle.page.specs.Page.{places_after}
use Rattle.runs.specs.World.{World, places_of, edited, Loan, lent_ram, lent_store, lent_places, lent_slots, lent_by}
use Rattle.runs.specs.Call.{Call, lend, served_world, reply_to, world_after}
use Rattle.runs.specs.Sort.{on_lend}
use Rattle.runs.specs.Run.{Made, Run, ended, on, calls_of, Each, made_over, world_over}
use Rattle.runs.proofs.Calls.{by_answer, fixed, AllPlaces, possible}
use Rattle.runs.proofs.Views.{View, feeds, writes, undoes, steps, starts, lends, plain, view}

-- a claim that each call hands on, where so much is asked of each
pub handed-on :
    (P : World → Type 0) (Asked : World → Call → Type 0) → ((w : World) (c : Call) → Asked w c → P w → P (world_after w c)) →
    {w v : World} {es : List Made} → Run w es v → Each (λ e. Asked e.before e.asks) es → P w → P v
handed-on P Asked f ended asked p = p
handed-on P Asked f (on {w} {v} {c = c} k rest) asked p =
    handed-on P Asked f rest asked.1 (let q : P v = rw (fixed k).world_is (f w c asked.0 p) in q)

-- a run is what its calls come to
pub record Comes (w : World) (es : List Made) (v : World) : Type 0 where
  pub log_is : es ≡ made_over w (calls_of es)
  pub world_is : v ≡ world_over w (calls_of es)

pub comes : {w v : World} {es : List Made} → Run w es v → Comes w es v
comes ended = record { log_is = refl; world_is = refl }
comes (on {w} {v} {c = c} {es = es} k rest) =
    let i = comes rest in
    record {
      log_is =
          rw ((fixed k).reply-is, ← (fixed k).world_is)
          (ap (λ (x : List Made). record { before = w; asks = c; reply = reply_to w c; after = v } ∷ x) i.log_is);
      world_is = i.world_is ∙ ap (λ (x : World). world_over x (calls_of es)) (fixed k).world_is;
    }

-- its calls are those that it was made of
pub calls-over : (cs : List Call) (w : World) → calls_of (made_over w cs) ≡ cs
calls-over [] w = refl
calls-over (c ∷ cs) w = ap (λ (x : List Call). c ∷ x) (calls-over cs (world_after w c))

-- ---- what holds of each call of a list
abbrev pub Every : (Call → Type 0) → List Call → Type 0
Every P [] = Unit {0}
Every P (c ∷ cs) = P c × Every P cs

pub every : (P Q : Call → Type 0) → ((c : Call) → P c → Q c) → (cs : List Call) → Every P cs → Every Q cs
every P Q f [] h = tt
every P Q f (c ∷ cs) h = (f c h.0, every P Q f cs h.1)

pub every-joined : (P : Call → Type 0) (cs ds : List Call) → Every P cs → Every P ds → Every P (cs ++ ds)
every-joined P [] ds h i = i
every-joined P (c ∷ cs) ds h i = (h.0, every-joined P cs ds h.1 i)

-- holds of each call of the run that they make
pub each-made : (P : Call → Type 0) (cs : List Call) (w : World) → Every P cs → Each (λ m. P m.asks) (made_over w cs)
each-made P [] w h = tt
each-made P (c ∷ cs) w h = (h.0, each-made P cs (world_after w c) h.1)

-- ---- places that are lent on the way are 256
abbrev pub WholeLoan : Loan → Type 0
WholeLoan (lent_ram l) = Unit {0}
WholeLoan (lent_store l) = Unit {0}
WholeLoan (lent_places e l) = length l ≡ 256
WholeLoan (lent_slots l) = Unit {0}

abbrev pub Whole : Call → Type 0
Whole c = on_lend WholeLoan (Unit {0}) c

abbrev pub AllWhole : List Call → Type 0
AllWhole cs = Every Whole cs

-- so they are where a call lends none, or whole ones
whole_by : (w : World) (c : Call) → View w c → ((l : Loan) → c ≡ lend l → WholeLoan l) → Whole c
whole_by w c (feeds b l) h = tt
whole_by w c (writes ed a b e) h = tt
whole_by w c (undoes ed e) h = tt
whole_by w c (steps a l) h = rw l.sorts tt
whole_by w c (starts o) h = tt
whole_by w c (lends l) h = h l refl
whole_by w c (plain s q l) h = rw s tt

pub lends-whole : (w : World) (c : Call) → ((l : Loan) → c ≡ lend l → WholeLoan l) → Whole c
lends-whole w c h = whole_by w c (view w c) h

-- one editor's places replaced
edit_whole : (w : World) (ed : Editor) (c : Chip) (store places : List ℕ) → length places ≡ 256 → AllPlaces w → AllPlaces (edited w ed c store places)
edit_whole w Song c store places h k Song = h
edit_whole w Song c store places h k Picture = k Picture
edit_whole w Picture c store places h k Song = k Song
edit_whole w Picture c store places h k Picture = h

loan_whole : (w : World) (l : Loan) → WholeLoan l → AllPlaces w → AllPlaces (record { chip = w.chip; lent = lent_by l w.lent })
loan_whole w (lent_ram l) h k = λ e. k e
loan_whole w (lent_store l) h k = λ e. k e
loan_whole w (lent_places e l) h k = edit_whole w e w.chip w.lent.store l h k
loan_whole w (lent_slots l) h k = λ e. k e

served-whole : (w : World) (c : Call) → View w c → Whole c → AllPlaces w → AllPlaces (served_world w c)
unfolding places_after
served-whole w c (feeds b l) h k = k
served-whole w c (writes ed a b e) h k = edit_whole w ed w.chip w.lent.store _ (go (is_kept (register_at a))) k
  where
    go :
        (t : Bool) →
        length
        (if t (set (places_of w.lent ed) ((undo_of w.chip.editing ed).next % 256) (entry_at w.chip w.lent.store a)) (places_of w.lent ed))
        ≡ 256
    go true = simp length-set (k ed)
    go false = k ed
served-whole w c (undoes ed e) h k = edit_whole w ed w.chip w.lent.store _ (k ed) k
served-whole w c (steps a l) h k = λ e. rw l.next (k e)
served-whole w c (starts o) h k = k
served-whole w c (lends l) h k = loan_whole w l h k
served-whole w c (plain s q l) h k = λ e. rw (l.places e) (k e)

pub whole-kept : (w : World) (c : Call) → Whole c → AllPlaces w → AllPlaces (world_after w c)
whole-kept w c h l = by_answer AllPlaces w c (λ z. served-whole w c (view w c) h l) l

-- every list of calls has a run
pub run-possible : (cs : List Call) (w : World) → AllPlaces w → AllWhole cs → Run w (made_over w cs) (world_over w cs)
run-possible [] w l h = ended
run-possible (c ∷ cs) w l h = on (possible w c l) (run-possible cs (world_after w c) (whole-kept w c h.0 l) h.1)
