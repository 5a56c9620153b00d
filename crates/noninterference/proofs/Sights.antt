-- What one editor can depend on, on two worlds, and what each call does to it.
use mathlib.Core.Path.{◌≡◌, refl, ap, sym, ◌∙◌}
use mathlib.Core.Bool.{Bool, true, false}
use mathlib.Core.List.{List}
use Prim.Native.Nat.{ℕ, ◌%◌}
use lib.ListN.{length, set}
use Rattle.common.specs.Answers.{done}
use Rattle.common.specs.Choice.{if}
use Rattle.editors.specs.declared.Editor.{Editor}
use Rattle.editors.specs.declared.Table.{Table}
use Rattle.editors.specs.Table.{other}
use Rattle.ring.specs.declared.Undo.{Undo}
use Rattle.ring.specs.Ring.{popped}
use Rattle.chip.specs.declared.Chip.{Chip}
use Rattle.chip.specs.declared.Editing.{Editing}
use Rattle.chip.specs.State.{with_editing}
use Rattle.chip.specs.Editors.{undo_of}
use Rattle.chip.proofs.EditingLaws.{own_record, other_record}
use Rattle.registers.specs.Address.{register_at}
use Rattle.registers.specs.Registers.{register_answer, register_written, store_put}
use Rattle.page.specs.UndoRecord.{is_kept, entry_with, entry_at, entry_register_of, entry_contents, undo_after}
use Rattle.page.specs.Page.{page_answer, read_answer, write_answer, page_written, places_after}
use Rattle.page.specs.Undo.{undo_answer, undone}
use Rattle.runs.specs.World.{World, places_of}
use Rattle.runs.specs.Call.{Call, read, write, undo, world_after}
use Rattle.runs.proofs.Calls.{by_answer, edited-places, other-places}
use Rattle.runs.proofs.Views.{newest_of}
use Rattle.runs.proofs.Pairs.{both-answer}
use Rattle.noninterference.specs.TwoRuns.{PageCall, reads, writes, undoes, room_of, Stays}
use Rattle.noninterference.proofs.Blocks.{Blocks, blocks_self, blocks-back, blocks-on, blocks_as}
use Rattle.noninterference.proofs.Puts.{put_same, put_other, contents-same}
use Rattle.noninterference.proofs.Records.{Owned, may_own, newest_may, written_may, own_as}

pub record Sight (t : Table) (e : Editor) (w v : World) : Type 0 where
  pub blocks : Blocks t e w.chip w.lent.store v.chip v.lent.store
  pub room : room_of w ≡ room_of v
  pub undo_record : undo_of w.chip.editing e ≡ undo_of v.chip.editing e
  pub places : places_of w.lent e ≡ places_of v.lent e

module _ {t : Table} {e : Editor} where
  pub sight_self : (w : World) → Sight t e w w
  sight_self w = record { blocks = blocks_self _ _; room = refl; undo_record = refl; places = refl }

  pub sight_back : {w v : World} → Sight t e w v → Sight t e v w
  sight_back s =
      record {
        blocks = blocks-back s.blocks;
        room = sym s.room;
        undo_record = sym s.undo_record;
        places = sym s.places;
      }

  pub sight_on : {w v u : World} → Sight t e w v → Sight t e v u → Sight t e w u
  sight_on s r =
      record {
        blocks = blocks-on s.blocks r.blocks;
        room = s.room ∙ r.room;
        undo_record = s.undo_record ∙ r.undo_record;
        places = s.places ∙ r.places;
      }

-- other records and tables are no block
pub with_editing_lem :
    {t : Table} {e : Editor} {c d : Chip} {l m : List ℕ} (x y : Editing) → Blocks t e c l d m →
    Blocks t e (with_editing c x) l (with_editing d y) m
with_editing_lem {c = c} {d = d} x y v =
    blocks_as (with_editing c x) (with_editing d y) v v.gate v.lock v.channels refl refl refl refl refl refl

beside_editing :
    {t : Table} {e : Editor} {c d : Chip} {l m : List ℕ} (y : Editing) → Blocks t e c l d m → Blocks t e c l (with_editing d y) m
beside_editing {c = c} {d = d} y v = blocks_as c (with_editing d y) v v.gate v.lock v.channels refl refl refl refl refl refl

-- a read leaves every sight
pub read_leaves : {t : Table} {e : Editor} (w : World) (f : Editor) (a bus : ℕ) → Sight t e w (world_after w (read f a bus))
read_leaves {t} {e} w f a bus = by_answer (Sight t e w) w (read f a bus) (λ z. sight_self w) (sight_self w)

-- ---- the other editor's calls
module _ {t : Table} {i : ℕ} (held : t.held ≡ true) (e : Editor) (w : World) (s : Stays t i w) (o : Owned w)
    (three : length w.chip.sound.channels ≡ 3) where
  write-other : (a b : ℕ) → Sight t e w (world_after w (write (other e) a b))
  unfolding page_written
  write-other a b =
      by_answer (Sight t e w) w (write (other e) a b)
      (λ z.
      record {
        blocks =
            beside_editing _
            (put_other t held e w.chip w.lent.store s.table three (register_at a) b (b % 16) (written_may t w (other e) a b s.table z));
        room = refl;
        undo_record = sym (other_record e w.chip.editing _);
        places = sym (other-places w e w.chip w.lent.store _);
      })
      (sight_self w)

  undo-other : Sight t e w (world_after w (undo (other e)))
  unfolding undone
  undo-other =
      let x = newest_of w (other e) in
      by_answer (Sight t e w) w (undo (other e))
      (λ z.
      record {
        blocks =
            beside_editing _
            (put_other t held e w.chip w.lent.store s.table three (entry_register_of x) (entry_contents x) (entry_contents x)
            (newest_may t w (other e) (own_as s.table o (other e)) z));
        room = refl;
        undo_record = sym (other_record e w.chip.editing _);
        places = sym (other-places w e w.chip w.lent.store _);
      })
      (sight_self w)

  pub others_leave : (c : Call) → PageCall (other e) c → Sight t e w (world_after w c)
  others_leave c (reads a bus) = read_leaves w (other e) a bus
  others_leave c (writes a b) = write-other a b
  others_leave c undoes = undo-other

-- ---- the editor's own calls, on both: the same numbers
module _ {t : Table} (e : Editor) (w v : World) (s : Sight t e w v) where
  pub read_number : (a : ℕ) → read_answer w.chip (length w.lent.store) a ≡ read_answer v.chip (length v.lent.store) a
  unfolding read_answer page_answer
  read_number a = rw (s.blocks.gate, s.blocks.pixels.size)

  pub write-number :
      {i j : ℕ} → Stays t i w → Stays t j v → (a : ℕ) →
      write_answer w.chip e (length w.lent.store) a ≡ write_answer v.chip e (length v.lent.store) a
  unfolding write_answer page_answer
  write-number p q a = rw (s.blocks.gate, s.blocks.pixels.size, p.table, q.table)

  pub undo-number : undo_answer w.chip e (length w.lent.store) ≡ undo_answer v.chip e (length v.lent.store)
  unfolding undo_answer
  undo-number = rw (s.blocks.pixels.size, s.undo_record)

-- and the same work
module _ {t : Table} {i j : ℕ} (held : t.held ≡ true) (e : Editor) (w v : World) (p : Stays t i w) (q : Stays t j v) (o : Owned w)
    (s : Sight t e w v) where
  -- the entry of a write
  entries-same :
      (a : ℕ) → register_answer t e (register_at a) ≡ done → is_kept (register_at a) ≡ true →
      entry_at w.chip w.lent.store a ≡ entry_at v.chip v.lent.store a
  entries-same a h k = ap (entry_with a) (contents-same t held e s.blocks (register_at a) (may_own t e (register_at a) h k))

  places_same :
      (a : ℕ) → register_answer t e (register_at a) ≡ done →
      places_after w.chip e w.lent.store (places_of w.lent e) a ≡ places_after v.chip e v.lent.store (places_of v.lent e) a
  unfolding places_after
  places_same a h = go (is_kept (register_at a)) refl
    where
      go :
          (k : Bool) → is_kept (register_at a) ≡ k →
          if k (set (places_of w.lent e) ((undo_of w.chip.editing e).next % 256) (entry_at w.chip w.lent.store a)) (places_of w.lent e)
          ≡ if k (set (places_of v.lent e) ((undo_of v.chip.editing e).next % 256) (entry_at v.chip v.lent.store a)) (places_of v.lent e)
      go true k = rw (s.places, s.undo_record, entries-same a h k)
      go false k = s.places

  pub write-both : (a b : ℕ) → Sight t e (world_after w (write e a b)) (world_after v (write e a b))
  unfolding page_written
  write-both a b =
      both-answer (Sight t e) w v (write e a b) (write-number e w v s p q a)
      (λ z.
      let h = written_may t w e a b p.table z in
      record {
        blocks = with_editing_lem _ _ (put_same t held e e p.table q.table (register_at a) b (b % 16) h s.blocks);
        room = s.room;
        undo_record =
            own_record e w.chip.editing _ ∙ ap (λ (u : Undo). undo_after u (register_at a)) s.undo_record
            ∙ sym (own_record e v.chip.editing _);
        places =
            edited-places w e w.chip w.lent.store _ ∙ places_same a h ∙ sym (edited-places v e v.chip v.lent.store _);
      })
      s

  newest-same : newest_of w e ≡ newest_of v e
  newest-same = rw (s.undo_record, s.places)

  pub undo-both : Sight t e (world_after w (undo e)) (world_after v (undo e))
  unfolding undone
  undo-both =
      both-answer (Sight t e) w v (undo e) (undo-number e w v s)
      (λ z.
      record {
        blocks = with_editing_lem _ _ (go (newest_of v e) newest-same (newest_may t w e (own_as p.table o e) z));
        room = s.room;
        undo_record = own_record e w.chip.editing _ ∙ ap popped s.undo_record ∙ sym (own_record e v.chip.editing _);
        places =
            edited-places w e w.chip w.lent.store _ ∙ s.places ∙ sym (edited-places v e v.chip v.lent.store _);
      })
      s
    where
      go :
          (x : ℕ) → newest_of w e ≡ x → register_answer t e (entry_register_of (newest_of w e)) ≡ done →
          Blocks t e (register_written w.chip e (entry_register_of (newest_of w e)) (entry_contents (newest_of w e)))
          (store_put w.lent.store (entry_register_of (newest_of w e)) (entry_contents (newest_of w e)))
          (register_written v.chip e (entry_register_of x) (entry_contents x))
          (store_put v.lent.store (entry_register_of x) (entry_contents x))
      go x n h =
          rw (← n)
          (put_same t held e e p.table q.table (entry_register_of (newest_of w e)) (entry_contents (newest_of w e)) (entry_contents (newest_of w e)) h
          s.blocks)
