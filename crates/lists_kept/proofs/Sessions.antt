-- Over every call of a session the placed lists stay in the area, apart, and as they were placed.
use mathlib.Core.Path.{◌≡◌, refl, ap}
use mathlib.Core.List.{List}
use Prim.Native.Nat.{ℕ}
use lib.ListN.{get_or}
use Rattle.lists.specs.Room.{place_at}
use Rattle.lists.proofs.Room.{start-even, end_even}
use Rattle.lists.proofs.Some.{some}
use Rattle.chip.specs.Editors.{lists_of}
use Rattle.chip.specs.Reset.{reset_chip}
use Rattle.placing.specs.InUse.{in_use_of}
use Rattle.runs.specs.World.{World}
use Rattle.runs.specs.Call.{Call, area, remove, Reply, served_world, world_after}
use Rattle.runs.specs.Run.{Made, Makes, Run, ended, on, Each}
use Rattle.runs.proofs.Calls.{by_answer, place-served, fixed}
use Rattle.lists_kept.specs.Session.{HandsRoom, Session}
use Rattle.lists_kept.specs.Kept.{HasList, placed_by, placed_over, none_placed, ListsKept, LeavesLists, KeepsLists}
use Rattle.lists_kept.proofs.Kept.{Has, Kept, kept-none, kept_less, kept-placed, placed_leaves}
use Rattle.lists_kept.proofs.Rooms.{RoomView, stays, gives, places, removes, lends-ram, lends_slots, room-view, removal_served}

-- the lists of a world
abbrev pub KeptOn : World → (ℕ → List ℕ) → Type 0
KeptOn w f = Kept (lists_of w.chip) w.lent.slots w.lent.ram f

-- ---- one call
module _ (f : ℕ → List ℕ) where
  same_kept :
      (w : World) (c : Call) → lists_of (served_world w c).chip ≡ lists_of w.chip → (served_world w c).lent.slots ≡ w.lent.slots →
      (served_world w c).lent.ram ≡ w.lent.ram → KeptOn w f → KeptOn (world_after w c) f
  same_kept w c p q m kept = by_answer (λ u. KeptOn u f) w c (λ z. rw (p, q, m) kept) kept

  call_kept :
      {w v : World} {c : Call} {r : Reply} → RoomView w c → HandsRoom c → Makes w c r v → KeptOn w f →
      KeptOn v (placed_by (record { before = w; asks = c; reply = r; after = v }) f)
  call_kept {w} {c = c} (stays e p q m) h k kept = rw ((fixed k).world_is, e) (same_kept w c p q m kept)
  call_kept {w} (gives from upto) h k kept =
      rw (fixed k).world_is (by_answer (λ u. KeptOn u f) w (area from upto) (λ z. kept-none refl kept.slots) kept)
  call_kept {w} (places list) h k kept =
      rw ((fixed k).reply-is, (fixed k).world_is, ← place-served w list)
      (kept-placed kept (some (lists_of w.chip) w.lent.slots w.lent.ram list).holds)
  call_kept {w} (removes handle) h k kept =
      rw (fixed k).world_is
      (by_answer (λ u. KeptOn u f) w (remove handle)
      (λ z.
      kept_less (lists_of w.chip) w.lent.slots w.lent.ram f kept handle
      (removal_served (lists_of w.chip) handle (in_use_of w.chip.sound (place_at w.lent.slots handle)) z).on)
      kept)
  call_kept (lends-ram l) h k kept = absurd (h.ram l refl)
  call_kept (lends_slots l) h k kept = absurd (h.slots l refl)

-- ---- a run, and a session
pub run-kept :
    {w v : World} {es : List Made} (f : ℕ → List ℕ) → Run w es v → Each (λ m. HandsRoom m.asks) es → KeptOn w f → KeptOn v (placed_over f es)
run-kept f ended h kept = kept
run-kept f (on {w} {v} {c = c} {r = r} k rest) h kept =
    run-kept (placed_by (record { before = w; asks = c; reply = r; after = v }) f) rest h.1 (call_kept f (room-view w c) h.0 k kept)

pub session-kept : {begun w : World} {log : List Made} → Session begun log w → KeptOn w (placed_over none_placed log)
unfolding reset_chip
session-kept {begun} s =
    run-kept none_placed s.reached.run s.hands
    (kept-none (ap (λ c. (lists_of c).used) s.reached.fresh.chip) s.places)

-- as the claim says it
pub has-list : {w : World} {k : ℕ} → HasList w k → Has (lists_of w.chip) k
has-list h = record { handle = h.handle; taken = h.taken }

pub lists-kept : (w : World) (f : ℕ → List ℕ) → KeptOn w f → ListsKept w f
lists-kept w f kept =
    record {
      inside =
          λ k h.
          let in_area_lem = kept.inside k (has-list h) in
          record {
            even-start = start-even (place_at w.lent.slots k);
            even_end = end_even (place_at w.lent.slots k);
            above = in_area_lem.above;
            some = in_area_lem.some;
            below = in_area_lem.below;
          };
      apart = λ j k g h d. kept.apart j k (has-list g) (has-list h) d;
      holds =
          λ k h.
          let bytes = kept.holds k (has-list h) in
          record { size = bytes.size; same = bytes.same };
    }

-- ---- no call changes a byte of a list that stands

-- one that leaves RAM
same-ram :
    {w v : World} {c : Call} {r : Reply} → Makes w c r v → (served_world w c).lent.ram ≡ w.lent.ram →
    LeavesLists (record { before = w; asks = c; reply = r; after = v })
same-ram {w} {v} {c} k m =
    let e : v.lent.ram ≡ w.lent.ram = rw (fixed k).world_is (by_answer (λ u. u.lent.ram ≡ w.lent.ram) w c (λ z. m) refl) in
    λ j h i l g. ap (λ ram. get_or ram i 0) e

call_leaves : {w v : World} {c : Call} {r : Reply} → RoomView w c → HandsRoom c → Makes w c r v →
    LeavesLists (record { before = w; asks = c; reply = r; after = v })
call_leaves (stays e p q m) h k = same-ram k m
call_leaves (gives from upto) h k = same-ram k refl
call_leaves {w} (places list) h k =
    let p = some (lists_of w.chip) w.lent.slots w.lent.ram list in
    rw ((fixed k).world_is, ← place-served w list) (λ j has. (placed_leaves p.holds).bytes j (has-list has))
call_leaves (removes handle) h k = same-ram k refl
call_leaves (lends-ram l) h k = absurd (h.ram l refl)
call_leaves (lends_slots l) h k = absurd (h.slots l refl)

pub run_leaves : {w v : World} {es : List Made} → Run w es v → Each (λ m. HandsRoom m.asks) es → Each LeavesLists es
run_leaves ended h = tt
run_leaves (on {w} {c = c} k rest) h = (call_leaves (room-view w c) h.0 k, run_leaves rest h.1)

pub keeps-lists : KeepsLists
keeps-lists =
    record {
      kept = λ {begun} {w} {log} s. lists-kept w (placed_over none_placed log) (session-kept s);
      others = λ s. run_leaves s.reached.run s.hands;
    }
