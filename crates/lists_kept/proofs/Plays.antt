-- A list that a channel plays from its start stays, words and all, until the channel has executed its STOP.
use mathlib.Core.Path.{◌≡◌, refl, sym, ◌∙◌}
use mathlib.Core.Bool.{Bool, true, false}
use mathlib.Core.List.{List, ◌∷◌}
use Prim.Native.Nat.{ℕ, zero, suc, ◌+◌, ◌*◌, ◌%◌, ◌<◌, ◌≤◌}
use native.Mathlib.Omega.{arith}
use borrow.Author.Tests.{eqb-true, eqb-false}
use lib.Dec.{eqb}
use lib.ListN.{get_or}
use Rattle.common.specs.Answers.{done, wrong_area, list_in_use, served}
use Rattle.common.specs.Choice.{if, either}
use Rattle.common.proofs.Tests.{or_true, clash}
use Rattle.lists.specs.declared.Area.{Area}
use Rattle.lists.specs.Area.{standing, area_answer}
use Rattle.lists.specs.Room.{start_of, end_of, place_at}
use Rattle.lists.specs.Place.{Placed, Places, other_length, not_askable, all_placed, no_gap, placed}
use Rattle.lists.proofs.Bits.{less-others}
use Rattle.lists.proofs.Room.{start-even, end_even}
use Rattle.lists.proofs.Some.{some}
use Rattle.lists.proofs.Uses.{by_address, case_uses}
use Rattle.sound.specs.declared.Channel.{Channel}
use Rattle.sound.specs.declared.Did.{Did}
use Rattle.sound.specs.declared.Sound.{Sound}
use Rattle.sound.specs.Channels.{word_at}
use Rattle.sound.specs.Line.{channel_of, did_of}
use Rattle.chip.specs.Editors.{lists_of}
use Rattle.placing.specs.InUse.{used_by, in_use_of}
use Rattle.runs.specs.World.{World}
use Rattle.runs.specs.Call.{Call, area, remove, Reply, answer_to, served_world}
use Rattle.runs.specs.Run.{Made, Makes, Run, ended, on, Each}
use Rattle.runs.proofs.Calls.{by_answer, place-served, fixed, served-answer, refused-is}
use Rattle.runs.proofs.Views.{LineView, one, other, line_view}
use Rattle.forecast.specs.Rule.{words_of}
use Rattle.forecast.specs.Demand.{channel, LineStep, Lent, Allowed, report_in, step_by, steps_of, did_over, did_stop, any_stop}
use Rattle.forecast.proofs.Playing.{Playing}
use Rattle.forecast.proofs.Words.{some_word}
use Rattle.forecast.proofs.LinePlays.{Line, stops-there, plays-on, line-plays}
use Rattle.forecast.proofs.Plays.{playing-aside}
use Rattle.forecast.proofs.Runs.{step-did, step-moves, call-aside}
use Rattle.lists_kept.specs.Session.{HandsRoom, Session}
use Rattle.lists_kept.specs.InUse.{Begins, Spares, StaysInUse}
use Rattle.lists_kept.proofs.Kept.{Has, same_or_not, placed_leaves}
use Rattle.lists_kept.proofs.Rooms.{RoomView, stays, gives, places, removes, lends-ram, lends_slots, room-view, removal_served, removal_refused}
use Rattle.lists_kept.proofs.Sessions.{has-list, session-kept}

-- ---- a channel whose address lies in a list has it in use
channel-uses : (d : Channel) (p : ℕ) → d.enabled ≡ true → start_of p ≤ d.address → d.address < end_of p → used_by d p ≡ true
channel-uses d p enabled g h =
    rw enabled (case_uses (start_of p) (end_of p) d.address d.mark d.counter (start-even p) (end_even p) (by_address g h))

sound-uses : (s : Sound) (n p : ℕ) → n < 3 → used_by (channel_of s.channels n) p ≡ true → in_use_of s p ≡ true
unfolding in_use_of
sound-uses s zero p h u = rw u
sound-uses s (suc zero) p h u = rw u (or_true (used_by (channel_of s.channels 0) p))
sound-uses s (suc (suc zero)) p h u =
    rw (u, or_true (used_by (channel_of s.channels 1) p)) (or_true (used_by (channel_of s.channels 0) p))
sound-uses s (suc (suc (suc n))) p h u = absurd (omega arith)

-- ---- the list of handle k is where it was on the world w, with the bytes that it had
pub record Stands (w : World) (k : ℕ) (v : World) : Type 0 where
  pub has-still : Has (lists_of v.chip) k
  pub area-stands : standing (lists_of v.chip) ≡ true
  pub place : place_at v.lent.slots k ≡ place_at w.lent.slots k
  pub bytes :
      (i : ℕ) → start_of (place_at w.lent.slots k) ≤ i → i < end_of (place_at w.lent.slots k) →
      get_or v.lent.ram i 0 ≡ get_or w.lent.ram i 0

placed-stands :
    {a : Area} {places ram list places' ram' : List ℕ} {r : Placed} → Places a places ram list places' ram' r → standing a ≡ true →
    standing r.area ≡ true
unfolding standing
placed-stands (other_length long) s = s
placed-stands (not_askable long ask) s = s
placed-stands (all_placed long ask all) s = s
placed-stands (no_gap long ask free none) s = s
placed-stands (placed long ask free low) s = s

-- an area that stands is not given again
not_given : (a : Area) (from upto : ℕ) → standing a ≡ true → area_answer a from upto ≡ done → ⊥
unfolding area_answer
not_given a from upto s z = let e : wrong_area ≡ done = rw s at z in omega arith

module _ (w : World) (k : ℕ) where
  -- area, places and RAM as they were
  same-stands :
      (v u : World) → lists_of u.chip ≡ lists_of v.chip → u.lent.slots ≡ v.lent.slots → u.lent.ram ≡ v.lent.ram →
      Stands w k v → Stands w k u
  same-stands v u p q m s =
      record {
        has-still = rw p s.has-still;
        area-stands = rw p s.area-stands;
        place = rw q s.place;
        bytes = λ i l g. rw m (s.bytes i l g);
      }

  -- another list removed
  less-stands : (v : World) (h : ℕ) → (h ≡ k → ⊥) → answer_to v (remove h) ≡ done → Stands w k v → Stands w k (served_world v (remove h))
  unfolding standing
  less-stands v h d z s =
      let served = removal_served (lists_of v.chip) h (in_use_of v.chip.sound (place_at v.lent.slots h)) z in
      record {
        has-still =
            record {
              handle = s.has-still.handle;
              taken = less-others h (lists_of v.chip).used served.on k (λ e. d (sym e)) ∙ s.has-still.taken;
            };
        area-stands = s.area-stands;
        place = s.place;
        bytes = s.bytes;
      }

  -- any call, while a channel has the list in use
  room-stands :
      {v u : World} {c : Call} {r : Reply} → RoomView v c → HandsRoom c → Makes v c r u →
      in_use_of v.chip.sound (place_at v.lent.slots k) ≡ true → Stands w k v → Stands w k u
  room-stands {v} {c = c} (stays e p q m) h made used s =
      rw (fixed made).world_is (by_answer (Stands w k) v c (λ z. same-stands v (served_world v c) p q m s) s)
  room-stands {v} (gives from upto) h made used s =
      rw (refused-is made (λ z. not_given (lists_of v.chip) from upto s.area-stands (sym (served-answer made) ∙ z))) s
  room-stands {v} (places list) h made used s =
      let p = some (lists_of v.chip) v.lent.slots v.lent.ram list in
      let l = placed_leaves p.holds in
      rw ((fixed made).world_is, ← place-served v list)
      (record {
        has-still = l.has-still k s.has-still;
        area-stands = placed-stands p.holds s.area-stands;
        place = l.place_still k s.has-still ∙ s.place;
        bytes = λ i g j. l.bytes k s.has-still i (rw s.place g) (rw s.place j) ∙ s.bytes i g j;
      })
  room-stands {v} {u} (removes handle) h made used s =
      same_or_not handle k
      (λ e. rw (refused-is made (λ z. still-used e (sym (served-answer made) ∙ z))) s)
      (λ d. rw (fixed made).world_is (by_answer (Stands w k) v (remove handle) (λ z. less-stands v handle d z s) s))
    where
      still-used : handle ≡ k → answer_to v (remove handle) ≡ done → ⊥
      still-used e z =
          let i : list_in_use ≡ done =
          sym
          (removal_refused (lists_of v.chip) handle (in_use_of v.chip.sound (place_at v.lent.slots handle)) s.area-stands
          (rw e s.has-still.handle) (rw e s.has-still.taken) (rw e used))
          ∙ z in
          omega arith
  room-stands (lends-ram l) h made used s = absurd (h.ram l refl)
  room-stands (lends_slots l) h made used s = absurd (h.slots l refl)

-- neither of two tests
pub neither : (a b : Bool) → either a b ≡ false → (a ≡ false) × (b ≡ false)
neither true b e = absurd (let z : ◌≡◌ {A = ℕ} 0 1 = cc in omega arith)
neither false b e = (refl, e)

-- ---- while the channel plays
module _ (n : ℕ) (h : n < 3) (k : ℕ) (w : World) (begins : Begins n k w) where
  abbrev s : ℕ
  s = start_of (place_at w.lent.slots k)

  abbrev e : ℕ
  e = end_of (place_at w.lent.slots k)

  abbrev words : List ℕ
  words = words_of w.lent.ram s

  pub record Still (v : World) : Type 0 where
    pub stands : Stands w k v
    pub playing : Playing w.lent.ram s (channel v.chip n)

  -- the list's words are in RAM
  in_ram : e ≤ 65536
  unfolding end_of
  in_ram = omega arith

  words-lent : (v : World) → Stands w k v → Lent w.lent.ram s v.lent.ram
  unfolding word_at
  words-lent v t =
      record {
        words =
            λ i l.
            let low : s + i * 2 < e = omega (arith, begins.within) in
            let high : s + i * 2 + 1 < e = omega (arith, begins.within) in
            let small : (s + i * 2 + 1) % 65536 ≡ s + i * 2 + 1 = omega (arith, in_ram) in
            rw (small, t.bytes (s + i * 2) (omega arith) low, t.bytes (s + i * 2 + 1) (omega arith) high) refl;
      }

  -- the channel has it in use
  in_use : (v : World) → Still v → in_use_of v.chip.sound (place_at v.lent.slots k) ≡ true
  in_use v t =
      sound-uses v.chip.sound n (place_at v.lent.slots k) h
      (rw t.stands.place
      (channel-uses (channel v.chip n) (place_at w.lent.slots k) t.playing.enabled (omega (arith, t.playing.place))
      (omega (arith, t.playing.place, t.playing.within, begins.within))))

  -- a line without the STOP
  by-line : {c d : Channel} {r : Did} → did_stop r ≡ false → Line w.lent.ram s c d r → Playing w.lent.ram s d
  by-line f (stops-there x) = absurd (clash x.stop f)
  by-line f (plays-on x) = x.playing

  -- ---- one call
  module _ {v u : World} {c : Call} {r : Reply} (made : Makes v c r u) (spares : Spares n (record { before = v; asks = c; reply = r; after = u }))
      (t : Still v) where
    stands_on : Stands w k u
    stands_on = room-stands w k (room-view v c) spares.hands made (in_use v t) t.stands

    -- what is asked of it, as demand 3 asks it
    asked : LineView v c → Allowed n w.lent.ram s (record { before = v; asks = c; reply = r; after = u })
    asked (one a l) z = rw l.sorts (words-lent v t.stands)
    asked (other i) z = rw i (rw i at (spares.alone z))

    -- a call between the lines, and a line without the STOP
    call-plays :
        LineView v c → (ss : List LineStep) →
        any_stop (did_over n (step_by (record { before = v; asks = c; reply = r; after = u }) ss)) ≡ false →
        Playing w.lent.ram s (channel u.chip n)
    unfolding any_stop
    call-plays (other i) ss no_stop =
        playing-aside w.lent.ram s (call-aside n h made i (λ z. rw i at (spares.alone z))) t.playing
    call-plays (one a l) ss no_stop = go (eqb r.answer done) refl (rw l.sorts at no_stop)
      where
        here : LineStep
        here = record { accesses = a; report = report_in r.told }

        go :
            (b : Bool) → eqb r.answer done ≡ b → any_stop (did_over n (if b (here ∷ ss) ss)) ≡ false →
            Playing w.lent.ram s (channel u.chip n)
        go true z f =
            let d = eqb-true _ _ z in
            rw (step-moves n h made l d)
            (by-line (rw (step-did n h made l d) at (neither (did_stop (did_of (report_in r.told).entries n)) (any_stop (did_over n ss)) f).0)
            (line-plays w.lent.ram s begins.stop (channel v.chip n) t.playing v.lent.ram (words-lent v t.stands)))
        go false z f = rw (refused-is made (eqb-false _ _ z)) t.playing

  -- ---- the calls after it, and a run
  later-stops :
      (v u : World) (c : Call) (r : Reply) → LineView v c → (ss : List LineStep) →
      any_stop (did_over n (step_by (record { before = v; asks = c; reply = r; after = u }) ss)) ≡ false → any_stop (did_over n ss) ≡ false
  unfolding any_stop
  later-stops v u c r (other i) ss f = rw i at f
  later-stops v u c r (one a l) ss f = go (eqb r.answer done) (rw l.sorts at f)
    where
      go : (b : Bool) → any_stop (did_over n (if b (record { accesses = a; report = report_in r.told } ∷ ss) ss)) ≡ false → any_stop (did_over n ss) ≡ false
      go true f = (neither (did_stop (did_of (report_in r.told).entries n)) (any_stop (did_over n ss)) f).1
      go false f = f

  pub still :
      {v u : World} {es : List Made} → Run v es u → Each (Spares n) es → any_stop (did_over n (steps_of es)) ≡ false → Still v →
      Still u × Each (Allowed n w.lent.ram s) es
  still ended spares f t = (t, tt)
  still (on {w = v} {v = u} {c = c} {r = r} {es = es} made rest) spares f t =
      let view = line_view v c in
      let next : Still u = record { stands = stands_on made spares.0 t; playing = call-plays made spares.0 t view (steps_of es) f } in
      let more = still rest spares.1 (later-stops v u c r view (steps_of es) f) next in
      (more.0, (asked made spares.0 t view, more.1))

  -- ---- from a session
  pub at_first : {begun : World} {log : List Made} → Session begun log w → Still w
  at_first session =
      let kept = session-kept session in
      let has = has-list begins.has-list in
      record {
        stands = record { has-still = has; area-stands = kept.stands k has; place = refl; bytes = λ i l g. refl };
        playing =
            record {
              enabled = begins.enabled;
              passed = 0;
              place = omega (arith, begins.address);
              within = some_word words begins.stop;
              since = λ z. absurd (omega (arith, z, begins.counter));
            };
      }

  pub stays_in_use :
      {begun v : World} {log es : List Made} → Session begun log w → Run w es v → Each (Spares n) es → any_stop (did_over n (steps_of es)) ≡ false →
      StaysInUse n k w v es
  stays_in_use {v = v} session run spares f =
      let t = still run spares f (at_first session) in
      record {
        refused =
            λ made.
            served-answer made
            ∙ removal_refused (lists_of v.chip) k _ t.0.stands.area-stands t.0.stands.has-still.handle
            t.0.stands.has-still.taken (in_use v t.0);
        allowed = t.1;
        lent = words-lent v t.0.stands;
      }
