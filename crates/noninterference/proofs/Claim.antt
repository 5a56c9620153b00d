-- While a table holds, neither editor is felt by the other.
use mathlib.Core.Path.{◌≡◌, refl, ap, sym, ◌∙◌}
use mathlib.Core.Bool.{Bool, true}
use mathlib.Core.List.{List}
use Prim.Native.Nat.{ℕ}
use Rattle.common.specs.Choice.{bit}
use Rattle.editors.specs.declared.Editor.{Editor}
use Rattle.editors.specs.declared.Owners.{Owners}
use Rattle.editors.specs.declared.Table.{Table}
use Rattle.editors.specs.Table.{other}
use Rattle.editors.proofs.Which.{Which, own, another, which}
use Rattle.ring.specs.Ring.{record_of}
use Rattle.lists.specs.Area.{area_of, area_answer}
use Rattle.lists.specs.Remove.{without_list}
use Rattle.lists.proofs.Some.{some}
use Rattle.sound.specs.declared.Accesses.{Accesses}
use Rattle.sound.specs.declared.Channel.{Channel as Voice}
use Rattle.sound.specs.Channels.{with_mute}
use Rattle.chip.specs.Editors.{started}
use Rattle.chip.specs.Ports.{selected, data_written, gate_written}
use Rattle.chip.specs.Interrupts.{acknowledged}
use Rattle.chip.specs.Mute.{mute_set}
use Rattle.chip.specs.Step.{step_answer, stepped, counters_stepped}
use Rattle.draw.specs.Drawing.{draw_answer}
use Rattle.line.specs.Contract.{line_answer}
use Rattle.registers.specs.Address.{register_at}
use Rattle.contents.specs.Widths.{Widths}
use Rattle.runs.specs.World.{World, with_chip, Loan}
use Rattle.runs.specs.Call.{Call, bc, bd, gate, read, write, undo, ack, line, step, start, area, place, remove, mute, lend, Reply, answer_to, reply_to, world_after}
use Rattle.runs.specs.Run.{Made, Makes, Run, ended, on, Each}
use Rattle.runs.specs.Pair.{Beside, Throughout}
use Rattle.runs.specs.Pair as pair
use Rattle.runs.proofs.Calls.{by_answer, fixed}
use Rattle.runs.proofs.Views.{Lines, drawn-line, stepped_line, view}
use Rattle.runs.proofs.Within.{call-widths, within}
use Rattle.runs.proofs.Pairs.{Local, side_by_side, both-answer}
use Rattle.noninterference.specs.TwoRuns.{PageCall, reads, writes, undoes, Removal, removes, HostLoan, ram, slots, Fair, Session, SameFor, Stays, SameMutes, Room, Noninterference}
use Rattle.noninterference.proofs.Sames.{same_set}
use Rattle.noninterference.proofs.Blocks.{on-channels}
use Rattle.noninterference.proofs.Marks.{NoCall, page_leaves, marks-both}
use Rattle.noninterference.proofs.Puts.{contents-same, read_same}
use Rattle.noninterference.proofs.Host.{acknowledge_blocks, data_blocks, select_blocks, gate-blocks, step-blocks, start-blocks}
use Rattle.noninterference.proofs.Records.{Owned, reset_owned, run-owned, own-step, stays_step}
use Rattle.noninterference.proofs.Sights.{Sight, sight_self, sight_back, sight_on, with_editing_lem, read_leaves, others_leave, read_number, write-number, undo-number, write-both, undo-both}

-- what is known before each call of the two runs
pub record Known (t : Table) (i : ℕ) (w : World) : Type 0 where
  pub stays : Stays t i w
  pub owned : Owned w
  pub widths : Widths w.chip

-- and of the call
pub record Asked (t : Table) (i : ℕ) (e : Editor) (w : World) (c : Call) : Type 0 where
  pub known : Known t i w
  pub fair : Fair t e c

module _ (t : Table) (i : ℕ) (held : t.held ≡ true) (acknowledges : bit 0 i ≡ true) (e : Editor) where
  -- ---- the host's calls that leave the editor's sight, each run by itself
  data_leaves : (w : World) (b : ℕ) → Sight t e w (world_after w (bd b))
  unfolding data_written
  data_leaves w b =
      by_answer (Sight t e w) w (bd b)
      (λ z. record { blocks = data_blocks w.chip w.lent.store b; room = refl; undo_record = refl; places = refl }) (sight_self w)

  acknowledge_leaves : (w : World) → Stays t i w → Sight t e w (world_after w ack)
  unfolding acknowledged
  acknowledge_leaves w s =
      by_answer (Sight t e w) w ack
      (λ z.
      record {
        blocks = acknowledge_blocks w.chip w.lent.store (rw s.ivr-same acknowledges);
        room = refl;
        undo_record = refl;
        places = refl;
      })
      (sight_self w)

  -- two runs over a call that leaves each
  over-both : {w v x y : World} → Sight t e w v → Sight t e w x → Sight t e v y → Sight t e x y
  over-both s p q = sight_on (sight_back p) (sight_on s q)

  -- ---- those that change it alike
  module _ (w v : World) (s : Sight t e w v) where
    select_both : (b : ℕ) → Sight t e (world_after w (bc b)) (world_after v (bc b))
    unfolding selected
    select_both b = record { blocks = select_blocks s.blocks b; room = s.room; undo_record = s.undo_record; places = s.places }

    gate-both : (b : ℕ) → Sight t e (world_after w (gate b)) (world_after v (gate b))
    unfolding gate_written
    gate-both b =
        both-answer (Sight t e) w v (gate b) refl
        (λ z. record { blocks = gate-blocks s.blocks b; room = s.room; undo_record = s.undo_record; places = s.places }) s

    -- a line, whether it is drawn or not
    line-both :
        (c : Call) (a : Accesses) → Lines w c a → Lines v c a → answer_to w c ≡ answer_to v c → Sight t e (world_after w c) (world_after v c)
    unfolding stepped counters_stepped
    line-both c a l k same = both-answer (Sight t e) w v c same (λ z. rw (l.next, k.next) (go v.lent.ram (ap (λ (x : Room). x.ram) s.room))) s
      where
        go : (r : List ℕ) → w.lent.ram ≡ r → Sight t e (with_chip w (stepped w.lent.ram w.chip)) (with_chip v (stepped r v.chip))
        go r q =
            record {
              blocks = rw (← q) (step-blocks s.blocks w.lent.ram);
              room = s.room;
              undo_record = s.undo_record;
              places = s.places;
            }

    start-both : (o : Owners) → Sight t e (world_after w (start o)) (world_after v (start o))
    unfolding started
    start-both o = record { blocks = start-blocks s.blocks o; room = s.room; undo_record = refl; places = s.places }

    lend-both : (l : Loan) → HostLoan l → Sight t e (world_after w (lend l)) (world_after v (lend l))
    lend-both l (ram x) =
        record {
          blocks = s.blocks;
          room = ap (λ (r : Room). record { lists = r.lists; slots = r.slots; ram = x }) s.room;
          undo_record = s.undo_record;
          places = s.places;
        }
    lend-both l (slots x) =
        record {
          blocks = s.blocks;
          room = ap (λ (r : Room). record { lists = r.lists; slots = x; ram = r.ram }) s.room;
          undo_record = s.undo_record;
          places = s.places;
        }

    -- the calls for lists: the same area, places and RAM come to the same
    area-both : (from upto : ℕ) → Sight t e (world_after w (area from upto)) (world_after v (area from upto))
    area-both from upto =
        both-answer (Sight t e) w v (area from upto) (ap (λ (r : Room). area_answer r.lists from upto) s.room)
        (λ z.
        record {
          blocks = with_editing_lem _ _ s.blocks;
          room = ap (λ (r : Room). record { lists = area_of from upto; slots = r.slots; ram = r.ram }) s.room;
          undo_record = s.undo_record;
          places = s.places;
        })
        s

    place-both : (list : List ℕ) → Sight t e (world_after w (place list)) (world_after v (place list))
    place-both list =
        both-answer (Sight t e) w v (place list) (ap (λ (r : Room). (some r.lists r.slots r.ram list).result.answer) s.room)
        (λ z.
        record {
          blocks = with_editing_lem _ _ s.blocks;
          room = ap placed-room s.room;
          undo_record = s.undo_record;
          places = s.places;
        })
        s
      where
        placed-room : Room → Room
        placed-room r =
            let p = some r.lists r.slots r.ram list in
            record { lists = p.result.area; slots = p.places-after; ram = p.ram-after }

    remove-both :
        (handle : ℕ) → reply_to w (remove handle) ≡ reply_to v (remove handle) →
        Sight t e (world_after w (remove handle)) (world_after v (remove handle))
    remove-both handle same =
        both-answer (Sight t e) w v (remove handle) (ap (λ (r : Reply). r.answer) same)
        (λ z.
        record {
          blocks = with_editing_lem _ _ s.blocks;
          room = ap (λ (r : Room). record { lists = without_list r.lists handle; slots = r.slots; ram = r.ram }) s.room;
          undo_record = s.undo_record;
          places = s.places;
        })
        s

    -- a mute mark: the same where the channel is this editor's
    mute-both : (n : ℕ) (m : Bool) → Sight t e (world_after w (mute n m)) (world_after v (mute n m))
    unfolding mute_set
    mute-both n m =
        both-answer (Sight t e) w v (mute n m) refl
        (λ z.
        record {
          blocks =
              on-channels s.blocks _ _
              (same_set n _ _ s.blocks.channels (λ own. ap (λ (d : Voice). with_mute d m) (s.blocks.channels.each n own)));
          room = s.room;
          undo_record = s.undo_record;
          places = s.places;
        })
        s

    line-number : (n : ℕ) → line_answer w.chip w.lent.ram w.lent.store n ≡ line_answer v.chip v.lent.ram v.lent.store n
    unfolding draw_answer
    line-number n = rw (s.blocks.gate, ap (λ (x : Room). x.ram) s.room, s.blocks.pixels.size)

  -- ---- a call of both runs
  edit_both :
      (w v : World) (f : Editor) (a b : ℕ) → Which e f → Known t i w → Known t i v → Sight t e w v →
      Sight t e (world_after w (write f a b)) (world_after v (write f a b))
  edit_both w v f a b own p q s = write-both held e w v p.stays q.stays p.owned s a b
  edit_both w v f a b another p q s =
      over-both s (others_leave held e w p.stays p.owned p.widths.three (write (other e) a b) (writes a b))
      (others_leave held e v q.stays q.owned q.widths.three (write (other e) a b) (writes a b))

  back-both :
      (w v : World) (f : Editor) → Which e f → Known t i w → Known t i v → Sight t e w v →
      Sight t e (world_after w (undo f)) (world_after v (undo f))
  back-both w v f own p q s = undo-both held e w v p.stays q.stays p.owned s
  back-both w v f another p q s =
      over-both s (others_leave held e w p.stays p.owned p.widths.three (undo (other e)) undoes)
      (others_leave held e v q.stays q.owned q.widths.three (undo (other e)) undoes)

  call-both :
      (w v : World) (c : Call) → Known t i w → Known t i v → Fair t e c → (Removal c → reply_to w c ≡ reply_to v c) → Sight t e w v →
      Sight t e (world_after w c) (world_after v c)
  call-both w v (bc b) p q f g s = select_both w v s b
  call-both w v (bd b) p q f g s = over-both s (data_leaves w b) (data_leaves v b)
  call-both w v (gate b) p q f g s = gate-both w v s b
  call-both w v (read h a bus) p q f g s = over-both s (read_leaves w h a bus) (read_leaves v h a bus)
  call-both w v (write h a b) p q f g s = edit_both w v h a b (which e h) p q s
  call-both w v (undo h) p q f g s = back-both w v h (which e h) p q s
  call-both w v ack p q f g s = over-both s (acknowledge_leaves w p.stays) (acknowledge_leaves v q.stays)
  call-both w v (line a n) p q f g s = line-both w v s (line a n) a (drawn-line w a n) (drawn-line v a n) (line-number w v s n)
  call-both w v (step a) p q f g s = line-both w v s (step a) a (stepped_line w a) (stepped_line v a) (ap (λ (x : Room). step_answer x.ram) s.room)
  call-both w v (start o) p q f g s = start-both w v s o
  call-both w v (area from upto) p q f g s = area-both w v s from upto
  call-both w v (place list) p q f g s = place-both w v s list
  call-both w v (remove handle) p q f g s = remove-both w v s handle (g (removes handle))
  call-both w v (mute n m) p q f g s = mute-both w v s n m
  call-both w v (lend l) p q f g s = lend-both w v s l (f.hands.lends l refl)

  -- ---- the editor's replies
  reply-same :
      (w v : World) (c : Call) → PageCall e c → Known t i w → Known t i v → Fair t e c → Sight t e w v → reply_to w c ≡ reply_to v c
  reply-same w v c (reads a bus) p q f s =
      rw (
        read_number e w v s a,
        read_same t held e s.blocks p.stays.table q.stays.table (register_at a) bus (f.reads a bus refl),
      )
  reply-same w v c (writes a b) p q f s = rw (write-number e w v s p.stays q.stays a)
  reply-same w v c undoes p q f s = rw (undo-number e w v s)

  local : Local (Asked t i e) (Sight t e) (PageCall (other e)) Removal (PageCall e)
  local =
      record {
        theirs_first =
            λ w v c x a s.
            let k = a.known in
            sight_on (sight_back (others_leave held e w k.stays k.owned k.widths.three c x)) s;
        theirs_second =
            λ w v c x a s.
            let k = a.known in
            sight_on s (others_leave held e v k.stays k.owned k.widths.three c x);
        on_both = λ w v c a b g s. call-both w v c a.known b.known a.fair g s;
        replies = λ w v c x a b s. reply-same w v c x a.known b.known a.fair s;
      }

  -- ---- what is known stays known over a run
  known_step : {w v : World} {c : Call} {r : Reply} → Makes w c r v → Fair t e c → Known t i w → Known t i v
  known_step {w} {c = c} m f k =
      record {
        stays = stays_step held (view w c) m f k.owned k.stays;
        owned = own-step (view w c) m f.typed f.hands k.owned;
        widths = rw (fixed m).world_is (call-widths w c f.typed k.widths);
      }

  all_asked :
      {w v : World} {es : List Made} → Run w es v → Each (λ m. Fair t e m.asks) es → Known t i w →
      Each (λ m. Asked t i e m.before m.asks) es
  all_asked ended f k = tt
  all_asked (on m rest) f k = (record { known = k; fair = f.0 }, all_asked rest f.1 (known_step m f.0 k))

  all_stay :
      {w v : World} {es : List Made} → Run w es v → Each (λ m. Fair t e m.asks) es → Known t i w → Each (λ m. Stays t i m.after) es
  all_stay ended f k = tt
  all_stay (on m rest) f k = let n = known_step m f.0 k in (n.stays, all_stay rest f.1 n)

-- the mute marks of both runs
marks : (t : Table) (i : ℕ) (e : Editor) → Local (Asked t i e) SameMutes (PageCall (other e)) Removal NoCall
marks t i e =
    record {
      theirs_first = λ w v c x a s n h. sym (page_leaves w c x n h) ∙ s n h;
      theirs_second = λ w v c x a s n h. s n h ∙ page_leaves v c x n h;
      on_both = λ w v c a b g s. marks-both w v c a.known.widths.three b.known.widths.three s;
      replies = λ w v c x a b s. absurd x;
    }

-- what the editor can tell by its sight
told-by : {t : Table} {e : Editor} → t.held ≡ true → (w v : World) → Sight t e w v → SameFor t e w v
unfolding record_of
told-by {t} {e} held w v s =
    record {
      entries = rw (s.undo_record, s.places);
      contents-owned = contents-same t held e s.blocks;
      mapped = ap (λ g. g.mapped) s.blocks.gate;
    }

-- what follows from what two runs have in common is common to them too
common_throughout :
    {Theirs : Call → Type 0} {P Q : World → World → Type 0} {es fs : List Made} → ((w v : World) → P w v → Q w v) → (w v : World) →
    (b : Beside Theirs es fs) → Throughout P w v b → Throughout Q w v b
common_throughout f w v pair.ended s = f w v s
common_throughout f w v (pair.first {e} x rest) s = (f w v s.0, common_throughout f e.after v rest s.1)
common_throughout f w v (pair.second {f = m} x rest) s = (f w v s.0, common_throughout f w m.after rest s.1)
common_throughout f w v (pair.both {e} {f = m} p rest) s = (f w v s.0, common_throughout f e.after m.after rest s.1)

-- a session is known
session-known : {t : Table} {w : World} → Session t w → Known t w.chip.interrupts.ivr w
session-known s =
    record {
      stays = record { table = s.table; ivr-same = refl };
      owned = run-owned s.reached.run s.reached.typed s.hands (reset_owned s.reached.fresh.chip);
      widths = within s.reached;
    }

pub noninterference : (t : Table) → Noninterference t
noninterference t =
    record {
      unaffected =
          λ e {w} s m n f g b j.
          let k = session-known s in
          let i = w.chip.interrupts.ivr in
          let p = all_asked t i s.held s.ivr e m f k in
          let q = all_asked t i s.held s.ivr e n g k in
          let a = side_by_side (local t i s.held s.ivr e) b m n p q j (sight_self w) in
          record {
            replies = a.same;
            throughout = common_throughout (told-by s.held) w w b a.views;
            room = common_throughout (λ v u x. x.room) w w b a.views;
            mutes = (side_by_side (marks t i e) b m n p q j (λ n h. refl)).views;
            first-stays = all_stay t i s.held s.ivr e m f k;
            second-stays = all_stay t i s.held s.ivr e n g k;
          };
    }
