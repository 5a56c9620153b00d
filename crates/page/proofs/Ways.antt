-- 02, L5: the ways out of a page write and of undo.
use mathlib.Core.Path.{◌≡◌, refl, ap, sym, ◌∙◌}
use mathlib.Core.Bool.{Bool, true, false}
use mathlib.Core.List.{List, [], ◌∷◌}
use Prim.Native.Nat.{ℕ, ◌+◌, ◌-◌, ◌*◌, ◌%◌, ◌<◌}
use native.Mathlib.Nat.{mod-eq_of_lt}
use types.Run.{OneOf, miss}
use denote.Enum.Declared.{tag_of}
use borrow.Author.Tests.{ne_eqb, eqb-true}
use lib.Dec.{eqb}
use lib.ListN.{length, get_or, set, take}
use lib.Seq.{set-get_or}
use Rattle.common.specs.Answers.{served}
use Rattle.common.specs.Choice.{if}
use Rattle.editors.specs.declared.Editor.{Editor}
use Rattle.ring.specs.declared.Undo.{Undo}
use Rattle.ring.specs.Ring.{back, record_of, pushed, Puts, popped, tail}
use Rattle.ring.proofs.Laws.{puts, pop_record}
use Rattle.chip.specs.declared.Chip.{Chip}
use Rattle.chip.specs.declared.Answered.{Answered}
use Rattle.chip.specs.State.{with_editing}
use Rattle.chip.specs.Editors.{undo_of, editing_with}
use Rattle.chip.proofs.EditingLaws.{own_record, same_record}
use Rattle.registers.specs.declared.address.Register.{Register}
use Rattle.registers.specs.declared.address.Register.TheVariants.{Pixel, Sprite, Palette, Video, Ivr, Converter, Channel, Dcsr, Status, Empty}
use Rattle.registers.specs.Address.{register_at}
use Rattle.registers.specs.Registers.{register_written, store_put, store_written}
use Rattle.registers.specs.contracts.address.Register.{the_type}
use Rattle.contents.specs.Contents.{contents}
use Rattle.page.specs.UndoRecord.{is_kept, entry_register_of, entry_contents, entry_at}
use Rattle.page.specs.Page.{write_answer, page_written, places_after, record_after, Writes}
use Rattle.page.specs.Undo.{undo_answer, newest, undone, store_undone, Undoes}
use Rattle.page.specs.declared.Edit.{Edit}
use Rattle.page.specs.declared.Edit.TheVariants.{Write, Back}
use Rattle.page.specs.declared.Change.{Change}
use Rattle.page.specs.Parts.{refusal, KeepsEntry, Changes, changed_by, Edits}

module _ (c : Chip) (ed : Editor) (store : List ℕ) (place : ℕ) where
  -- the ways out of a write's change
  pub write-refused :
      (a b : ℕ) {n : ℕ} {h : Change} → n ≡ write_answer c ed (length store) a → (n ≡ 0 → ⊥) → h ≡ refusal (undo_of c.editing ed) n →
      Changes c ed store place (Write a b) place h
  write-refused a b e z is =
      let t = ne_eqb _ _ (rw e at z) in
      record { change = is ∙ simp (t, e); place_after = simp t }

  pub write-served :
      (a b : ℕ) {n v : ℕ} {x : Register} {u : Undo} {place' : ℕ} → n ≡ write_answer c ed (length store) a → n ≡ 0 → x ≡ register_at a →
      v ≡ contents c store x → v < 256 → KeepsEntry (undo_of c.editing ed) x place (a * 256 + v) place' u →
      Changes c ed store place (Write a b) place' (record { answer = n; register = x; byte = b; pixel = b % 16; undo = u })
  write-served a b {v = v} {x = x} e z r is small k =
      let t = sym e ∙ z in
      let w : a * 256 + v ≡ entry_at c store a =
      ap (λ n. a * 256 + n) (sym (mod-eq_of_lt small) ∙ ap (λ n. n % 256) (is ∙ ap (contents c store) r)) in
      record { change = simp (t, z, r, k.undo); place_after = k.place_after ∙ rw (t, w, r) }

  -- an edit by its change: the chip has the byte in its register and the record's new state
  pub edits :
      (e : Edit) {h : Change} {x : Chip} {store' : List ℕ} {place' : ℕ} → Changes c ed store place e place' h →
      store' ≡ store_put store h.register h.pixel →
      x ≡ changed_by c ed h →
      Edits c ed store place e store' place' (record { chip = x; answer = h.answer })
  edits e k stored is =
      record {
        answer = ap (λ (h : Change). h.answer) k.change;
        chip = is ∙ ap (λ (h : Change). changed_by c ed h) k.change;
        store-after = stored ∙ ap (λ (h : Change). store_put store h.register h.pixel) k.change;
        place_after = k.place_after;
      }

module _ (c : Chip) (ed : Editor) (store places : List ℕ) where
  u : Undo
  u = undo_of c.editing ed

  -- the record as it was is no change
  unmoved : with_editing c (editing_with c.editing ed u) ≡ c
  unfolding u
  unmoved = ap (with_editing c) (same_record ed c.editing)

  -- a write, from its edit and the entry put at the record's place
  pub writes :
      (a b : ℕ) {store' places' : List ℕ} {place' : ℕ} {r : Answered} →
      Edits c ed store (get_or places ((undo_of c.editing ed).next % 256) 0) (Write a b) store' place' r →
      Puts (undo_of c.editing ed) places place' places' → Writes c ed store places a b store' places' r
  unfolding u page_written places_after record_after
  writes a b {store'} {places'} {place'} {r} e p =
      go (eqb (write_answer c ed (length store) a) 0) (is_kept (register_at a)) refl refl e
    where
      -- what stood at the record's place stands there again
      unchanged : place' ≡ get_or places (u.next % 256) 0 → places' ≡ places
      unchanged h = p.places-after ∙ rw h (set-get_or places (u.next % 256) 0)

      go :
          (t k : Bool) → eqb (write_answer c ed (length store) a) 0 ≡ t → is_kept (register_at a) ≡ k →
          Edits c ed store (get_or places (u.next % 256) 0) (Write a b) store' place' r → Writes c ed store places a b store' places' r
      go true true is kept e =
          let chip = rw (is, kept) at e.chip in
          let entry = rw (is, kept) at e.place_after in
          record {
            call = record { answer = (rw is at e.answer) ∙ sym (eqb-true _ _ is); chip = rw (is, kept) chip };
            store-after = rw is (rw is at e.store-after);
            places-after = rw (is, kept, ← entry) p.places-after;
            record_after_lem = rw (is, kept, chip, own_record ed c.editing (pushed u), ← entry) p.record-after;
          }
      go true false is kept e =
          let chip = rw (is, kept) at e.chip in
          let same = unchanged (rw (is, kept) at e.place_after) in
          record {
            call = record { answer = (rw is at e.answer) ∙ sym (eqb-true _ _ is); chip = rw (is, kept) chip };
            store-after = rw is (rw is at e.store-after);
            places-after = rw (is, kept) same;
            record_after_lem = rw (is, kept, chip, own_record ed c.editing u, same);
          }
      go false k is kept e =
          let chip = (rw is at e.chip) ∙ unmoved in
          let same = unchanged (rw is at e.place_after) in
          record {
            call = record { answer = rw is at e.answer; chip = rw is chip };
            store-after = rw is (rw is at e.store-after);
            places-after = rw is same;
            record_after_lem = rw (is, chip, same);
          }

  -- an undo, from its edit
  pub undoes :
      {store' : List ℕ} {place' : ℕ} {r : Answered} → Edits c ed store (newest c ed places) Back store' place' r →
      Undoes c ed store places store' r
  unfolding u undo_answer undone
  undoes {store'} {place'} {r} e = go (eqb (length store) 4096) (eqb u.count 0) refl refl e
    where
      go :
          (t k : Bool) → eqb (length store) 4096 ≡ t → eqb u.count 0 ≡ k →
          Edits c ed store (newest c ed places) Back store' place' r → Undoes c ed store places store' r
      go true false is some e =
          let chip = rw (is, some) at e.chip in
          record {
            call = record { answer = rw (is, some) (rw (is, some) at e.answer); chip = rw (is, some) chip };
            store-after = rw (is, some) (rw (is, some) at e.store-after);
            record_after_lem = rw (is, some, chip, own_record ed c.editing (record { next = back u.next; count = u.count - 1 })) (rw some at (pop_record u places));
          }
      go true true is none e =
          let chip = (rw (is, none) at e.chip) ∙ unmoved in
          record {
            call = record { answer = rw (is, none) (rw (is, none) at e.answer); chip = rw (is, none) chip };
            store-after = rw (is, none) (rw (is, none) at e.store-after);
            record_after_lem = rw (is, none, chip);
          }
      go false k is some e =
          let chip = (rw is at e.chip) ∙ unmoved in
          record {
            call = record { answer = rw is (rw is at e.answer); chip = rw is chip };
            store-after = rw is (rw is at e.store-after);
            record_after_lem = rw (is, chip);
          }

-- the variants other than DCSR, by their numbers
abbrev others : List ℕ
others = 0 ∷ 1 ∷ 2 ∷ 3 ∷ 4 ∷ 5 ∷ 6 ∷ 8 ∷ 9 ∷ []

is-kept : (x : Register) → OneOf others (tag_of the_type x) → is_kept x ≡ true
is-kept (Pixel i) h = refl
is-kept (Sprite n p) h = refl
is-kept (Palette i) h = refl
is-kept (Video v) h = refl
is-kept Ivr h = refl
is-kept Converter h = refl
is-kept (Channel n r) h = refl
is-kept Dcsr h = absurd (miss others 7 tt h)
is-kept Status h = refl
is-kept Empty h = refl

pub keeps-one :
    (u : Undo) (x : Register) (place entry : ℕ) {r : Undo} → OneOf others (tag_of the_type x) → r ≡ pushed u →
    KeepsEntry u x place entry entry r
keeps-one u x place entry h is = let t = is-kept x h in record { undo = is ∙ simp t; place_after = simp t }

-- what the two promise can be had on every chip, whatever is lent, with 256 places
module _ (c : Chip) (ed : Editor) (store places : List ℕ) where
  pub write-possible :
      (a b : ℕ) → length places ≡ 256 →
      Writes c ed store places a b (served (write_answer c ed (length store) a) (store_written store (register_at a) b) store)
      (served (write_answer c ed (length store) a) (places_after c ed store places a) places)
      (record { answer = write_answer c ed (length store) a; chip = served (write_answer c ed (length store) a) (page_written c ed (register_at a) b) c })
  unfolding page_written places_after record_after
  write-possible a b whole =
      record {
        call = record { answer = refl; chip = refl };
        store-after = refl;
        places-after = refl;
        record_after_lem = go (eqb (write_answer c ed (length store) a) 0) (is_kept (register_at a));
      }
    where
      u : Undo
      u = undo_of c.editing ed

      e : ℕ
      e = entry_at c store a

      go :
          (t k : Bool) →
          record_of (undo_of (if t (with_editing (register_written c ed (register_at a) b) (editing_with c.editing ed (if k (pushed u) u))) c).editing ed)
          (if t (if k (set places (u.next % 256) e) places) places)
          ≡ if t (if k (take 256 (e ∷ record_of u places)) (record_of u places)) (record_of u places)
      go true true = rw (own_record ed c.editing (pushed u)) (puts u places e whole).record-after
      go true false = rw (own_record ed c.editing u)
      go false k = refl

  pub undo-possible :
      Undoes c ed store places (served (undo_answer c ed (length store)) (store_undone store (newest c ed places)) store)
      (record { answer = undo_answer c ed (length store); chip = served (undo_answer c ed (length store)) (undone c ed (newest c ed places)) c })
  unfolding undone
  undo-possible =
      record {
        call = record { answer = refl; chip = refl };
        store-after = refl;
        record_after_lem = go (eqb (undo_answer c ed (length store)) 0);
      }
    where
      u : Undo
      u = undo_of c.editing ed

      next : Chip
      next = register_written c ed (entry_register_of (newest c ed places)) (entry_contents (newest c ed places))

      go :
          (t : Bool) →
          record_of (undo_of (if t (with_editing next (editing_with c.editing ed (popped u))) c).editing ed) places ≡ if t (tail (record_of u places)) (record_of u places)
      go true = rw (own_record ed c.editing (popped u)) (pop_record u places)
      go false = refl
