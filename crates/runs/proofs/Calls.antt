-- The contracts fix what every call replies and leaves; and every call can be made on every world.
use mathlib.Core.Path.{◌≡◌, refl, sym, ◌∙◌, ap}
use mathlib.Core.Bool.{Bool, true, false}
use mathlib.Core.List.{List}
use Prim.Native.Nat.{ℕ}
use lib.Dec.{eqb}
use lib.ListN.{length, length-replicate, replicate}
use borrow.Author.Tests.{eqb-true, eqb-false, eq-eqb, ne_eqb}
use Rattle.common.specs.Answers.{done, served}
use Rattle.common.specs.Choice.{if}
use Rattle.editors.specs.declared.Editor.{Editor}
use Rattle.editors.specs.declared.Editor.TheVariants.{Song, Picture}
use Rattle.editors.specs.Table.{other}
use Rattle.lock.proofs.Steps.{feeds}
use Rattle.lists.specs.Area.{area_of}
use Rattle.lists.specs.Place.{Placed, Places}
use Rattle.lists.specs.Remove.{without_list}
use Rattle.lists.proofs.Only.{only, refused-keeps}
use Rattle.lists.proofs.Some.{some}
use Rattle.chip.specs.declared.Chip.{Chip}
use Rattle.chip.specs.Promises.{Answers}
use Rattle.chip.specs.Editors.{lists_of, with_lists}
use Rattle.chip.specs.Ports.{selected, Selects, data_answer, data_written, gate_answer, gate_written}
use Rattle.chip.specs.Interrupts.{acknowledged}
use Rattle.chip.specs.Mute.{mute_answer, mute_set}
use Rattle.chip.specs.Step.{step_answer, stepped}
use Rattle.line.proofs.Possible.{steps-by, line-possible}
use Rattle.registers.specs.Address.{register_at}
use Rattle.registers.specs.Registers.{store_written}
use Rattle.page.specs.Page.{page_written, places_after, Writes}
use Rattle.page.specs.Undo.{newest, undone, store_undone, Undoes}
use Rattle.page.proofs.Ways.{write-possible, undo-possible}
use Rattle.runs.specs.World.{World, places_of, with_chip, edited, roomed}
use Rattle.runs.specs.Call.{Call, bc, bd, gate, read, write, undo, ack, line, step, start, area, place, remove, mute, lend, placed, Reply, answer_to, served_world, reply_to, world_after}
use Rattle.runs.specs.Run as run
use Rattle.runs.specs.Run.{Makes}

-- what holds of the world that a served call leaves and of the world before holds after the call
pub by_answer :
    (P : World → Type 0) (w : World) (c : Call) → (answer_to w c ≡ done → P (served_world w c)) → P w → P (world_after w c)
by_answer P w c f g = go (eqb (answer_to w c) done) refl
  where
    go : (t : Bool) → eqb (answer_to w c) done ≡ t → P (if t (served_world w c) w)
    go true e = f (eqb-true _ _ e)
    go false e = g

-- a choice of chips, and of chips with their buffers, is a choice of worlds
pub chip-served : (n : ℕ) (w : World) (next : Chip) → with_chip w (served n next w.chip) ≡ served n (with_chip w next) w
chip-served n w next = go (eqb n done)
  where
    go : (t : Bool) → with_chip w (if t next w.chip) ≡ if t (with_chip w next) w
    go true = refl
    go false = refl

-- the buffers as they are lent are no change
pub unedited : (w : World) (e : Editor) → edited w e w.chip w.lent.store (places_of w.lent e) ≡ w
unedited w Song = refl
unedited w Picture = refl

pub edit_served :
    (n : ℕ) (w : World) (e : Editor) (next : Chip) (store places : List ℕ) →
    edited w e (served n next w.chip) (served n store w.lent.store) (served n places (places_of w.lent e))
    ≡ served n (edited w e next store places) w
edit_served n w e next store places = go (eqb n done)
  where
    go :
        (t : Bool) →
        edited w e (if t next w.chip) (if t store w.lent.store) (if t places (places_of w.lent e))
        ≡ if t (edited w e next store places) w
    go true = refl
    go false = unedited w e

pub store-served :
    (n : ℕ) (w : World) (e : Editor) (next : Chip) (store : List ℕ) →
    edited w e (served n next w.chip) (served n store w.lent.store) (places_of w.lent e)
    ≡ served n (edited w e next store (places_of w.lent e)) w
store-served n w e next store = go (eqb n done)
  where
    go :
        (t : Bool) →
        edited w e (if t next w.chip) (if t store w.lent.store) (places_of w.lent e)
        ≡ if t (edited w e next store (places_of w.lent e)) w
    go true = refl
    go false = unedited w e

-- a refused placing leaves all as it was, so that its world needs no choice
pub place-served : (w : World) (list : List ℕ) → served_world w (place list) ≡ world_after w (place list)
place-served w list = go (eqb (answer_to w (place list)) done) refl
  where
    go : (t : Bool) → eqb (answer_to w (place list)) done ≡ t → served_world w (place list) ≡ if t (served_world w (place list)) w
    go true e = refl
    go false e =
        let k = refused-keeps (some (lists_of w.chip) w.lent.slots w.lent.ram list).holds (eqb-false _ _ e) in
        rw (k.area-stays, k.places, k.ram)

-- ---- the contracts fix reply and world
pub record Fixed (w : World) (c : Call) (r : Reply) (v : World) : Type 0 where
  pub reply-is : r ≡ reply_to w c
  pub world_is : v ≡ world_after w c

pub fixed : {w v : World} {c : Call} {r : Reply} → Makes w c r v → Fixed w c r v
fixed {w} (run.bc b r l) = record { reply-is = rw l.call.answer; world_is = rw l.call.chip }
fixed {w} (run.bd b r l) =
    record { reply-is = rw l.answer; world_is = rw l.chip (chip-served (data_answer w.chip) w (data_written w.chip b)) }
fixed {w} (run.gate b r l) =
    record { reply-is = rw l.answer; world_is = rw l.chip (chip-served (gate_answer b) w (gate_written w.chip b)) }
fixed {w} (run.read e a bus r l) =
    record { reply-is = rw (l.answer, l.byte); world_is = by_answer (λ v. w ≡ v) w (read e a bus) (λ z. refl) refl }
fixed {w} (run.write e store' places' a b r l) =
    let c = w.chip in
    record {
      reply-is = rw l.call.answer;
      world_is =
          rw (l.call.chip, l.store-after, l.places-after)
          (edit_served (answer_to w (write e a b)) w e (page_written c e (register_at a) b) (store_written w.lent.store (register_at a) b)
          (places_after c e w.lent.store (places_of w.lent e) a));
    }
fixed {w} (run.undo e store' r l) =
    let entry = newest w.chip e (places_of w.lent e) in
    record {
      reply-is = rw l.call.answer;
      world_is =
          rw (l.call.chip, l.store-after)
          (store-served (answer_to w (undo e)) w e (undone w.chip e entry) (store_undone w.lent.store entry));
    }
fixed {w} (run.ack r l) =
    record { reply-is = rw (l.answer, l.vector); world_is = rw l.chip (chip-served (answer_to w ack) w (acknowledged w.chip)) }
fixed {w} (run.line shown shown' a n r u l) =
    record {
      reply-is = rw (l.steps.answer, l.steps.report, u);
      world_is = rw (l.steps.chip, u) (chip-served (answer_to w (line a n)) w (stepped w.lent.ram w.chip));
    }
fixed {w} (run.step a r l) =
    record {
      reply-is = rw (l.answer, l.report);
      world_is = rw l.chip (chip-served (answer_to w (step a)) w (stepped w.lent.ram w.chip));
    }
fixed {w} (run.start o r l) = record { reply-is = rw l.answer; world_is = rw l.chip }
fixed {w} (run.area from upto r l) =
    record { reply-is = rw l.answer; world_is = rw l.chip (chip-served (answer_to w (area from upto)) w (with_lists w.chip (area_of from upto))) }
fixed {w} (run.place list slots' ram' r l) =
    let p = some (lists_of w.chip) w.lent.slots w.lent.ram list in
    let same = only l.places-list p.holds in
    record {
      reply-is =
          ap (λ (x : Placed). record { answer = x.answer; told = placed x.address x.handle }) same.result;
      world_is =
          ap (λ (x : Chip). roomed w x ram' slots') l.rest
          ∙ ap (λ (x : Placed). roomed w (with_lists w.chip x.area) ram' slots') same.result
          ∙ rw (same.places, same.ram) (place-served w list);
    }
fixed {w} (run.remove handle r l) =
    record {
      reply-is = rw l.answer;
      world_is =
          rw l.chip (chip-served (answer_to w (remove handle)) w (with_lists w.chip (without_list (lists_of w.chip) handle)));
    }
fixed {w} (run.mute n on r l) =
    record { reply-is = rw l.answer; world_is = rw l.chip (chip-served (mute_answer n) w (mute_set w.chip n on)) }
fixed {w} (run.lend l) = record { reply-is = refl; world_is = refl }

-- so its answer, and the world after it where it is served and where it is refused
pub served-answer : {w v : World} {c : Call} {r : Reply} → Makes w c r v → r.answer ≡ answer_to w c
served-answer k = ap (λ (r : Reply). r.answer) (fixed k).reply-is

pub served-is : {w v : World} {c : Call} {r : Reply} → Makes w c r v → r.answer ≡ done → v ≡ served_world w c
served-is k z = (fixed k).world_is ∙ simp (eq-eqb _ _ (sym (served-answer k) ∙ z))

pub refused-is : {w v : World} {c : Call} {r : Reply} → Makes w c r v → (r.answer ≡ done → ⊥) → v ≡ w
refused-is k n = (fixed k).world_is ∙ simp (ne_eqb _ _ (λ z. n (served-answer k ∙ z)))

-- the places of the editor that edits, and of the other
pub edited-places : (w : World) (e : Editor) (c : Chip) (store places : List ℕ) → places_of (edited w e c store places).lent e ≡ places
edited-places w Song c store places = refl
edited-places w Picture c store places = refl

pub other-places :
    (w : World) (e : Editor) (c : Chip) (store places : List ℕ) →
    places_of (edited w (other e) c store places).lent e ≡ places_of w.lent e
other-places w Song c store places = refl
other-places w Picture c store places = refl

-- a page write's and an undo's contract, of the worlds before and after it
pub written : {w v : World} {e : Editor} {a b : ℕ} {r : Reply} → Makes w (write e a b) r v →
    Writes w.chip e w.lent.store (places_of w.lent e) a b v.lent.store (places_of v.lent e)
    (record { answer = r.answer; chip = v.chip })
written {w} (run.write e store' places' a b r l) = rw (edited-places w e r.chip store' places') l

pub record Taken (w : World) (e : Editor) (r : Reply) (v : World) : Type 0 where
  pub undoes :
      Undoes w.chip e w.lent.store (places_of w.lent e) v.lent.store (record { answer = r.answer; chip = v.chip })
  pub places_stay : places_of v.lent e ≡ places_of w.lent e

pub taken : {w v : World} {e : Editor} {r : Reply} → Makes w (undo e) r v → Taken w e r v
taken {w} (run.undo e store' r l) =
    record { undoes = l; places_stay = edited-places w e r.chip store' (places_of w.lent e) }

-- ---- every call can be made on every world with 256 places for each editor

answers : (number : ℕ) (next c : Chip) → Answers number next c (record { answer = number; chip = served number next c })
answers number next c = record { answer = refl; chip = refl }

selects : (c : Chip) (b : ℕ) → Selects c b (record { answer = 0; chip = selected c b })
unfolding selected
selects c b = record { call = answers _ _ c; tracks = (feeds c.lock b _ refl).tracks }

-- a call with its reply and the world after it, as the contract has them
record Way (w : World) (c : Call) : Type 0 where
  reply : Reply
  after : World
  made : Makes w c reply after

-- 256 places of each editor's record are lent
abbrev pub AllPlaces : World → Type 0
AllPlaces w = (e : Editor) → length (places_of w.lent e) ≡ 256

way : (w : World) (c : Call) → AllPlaces w → Way w c
way w (bc b) h = record { reply = _; after = _; made = run.bc b _ (selects w.chip b) }
way w (bd b) h = record { reply = _; after = _; made = run.bd b _ (answers _ _ w.chip) }
way w (gate b) h = record { reply = _; after = _; made = run.gate b _ (answers _ _ w.chip) }
way w (read e a bus) h =
    record {
      reply = _;
      after = _;
      made =
          run.read e a bus (record { answer = _; byte = _ })
          (record { answer = refl; byte = refl });
    }
way w (write e a b) h =
    record {
      reply = _;
      after = _;
      made =
          run.write e _ _ a b _
          (write-possible w.chip e w.lent.store (places_of w.lent e) a b (h e));
    }
way w (undo e) h =
    record {
      reply = _;
      after = _;
      made =
          run.undo e _ _
          (undo-possible w.chip e w.lent.store (places_of w.lent e));
    }
way w ack h =
    record {
      reply = _;
      after = _;
      made = run.ack (record { answer = _; chip = _; vector = _ }) (record { answer = refl; chip = refl; vector = refl });
    }
way w (line a n) h =
    record {
      reply = _;
      after = _;
      made =
          run.line (replicate n 0) _ a n _ (length-replicate n 0)
          (line-possible w.chip w.lent.ram w.lent.store (replicate n 0) a);
    }
way w (step a) h =
    record {
      reply = _;
      after = _;
      made = run.step a _ (steps-by (step_answer w.lent.ram) w.chip w.lent.ram a);
    }
way w (start o) h = record { reply = _; after = _; made = run.start o _ (answers _ _ w.chip) }
way w (area from upto) h = record { reply = _; after = _; made = run.area from upto _ (answers _ _ w.chip) }
way w (place list) h =
    let p = some (lists_of w.chip) w.lent.slots w.lent.ram list in
    record {
      reply = _;
      after = _;
      made =
          run.place list p.places-after p.ram-after
          (record {
            chip = with_lists w.chip p.result.area;
            answer = p.result.answer;
            address = p.result.address;
            handle = p.result.handle;
          })
          (record { places-list = p.holds; rest = refl });
    }
way w (remove handle) h =
    record { reply = _; after = _; made = run.remove handle _ (answers _ _ w.chip) }
way w (mute n on) h = record { reply = _; after = _; made = run.mute n on _ (answers _ _ w.chip) }
way w (lend l) h = record { reply = _; after = _; made = run.lend l }

pub possible : (w : World) (c : Call) → AllPlaces w → Makes w c (reply_to w c) (world_after w c)
possible w c h =
    let k = way w c h in
    rw ((fixed k.made).reply-is, (fixed k.made).world_is) at k.made

-- where placing comes to, by an outcome that meets its promise
pub placed-world :
    (w : World) (list : List ℕ) {slots' ram' : List ℕ} {r : Placed} → Places (lists_of w.chip) w.lent.slots w.lent.ram list slots' ram' r →
    world_after w (place list) ≡ roomed w (with_lists w.chip r.area) ram' slots'
placed-world w list {slots'} {ram'} {r} holds =
    sym
    (fixed
    (run.place list slots' ram'
    (record { chip = with_lists w.chip r.area; answer = r.answer; address = r.address; handle = r.handle })
    (record { places-list = holds; rest = refl }))).world_is
