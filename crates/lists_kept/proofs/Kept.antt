-- Placed lists over the rules of `lists`: giving an area, placing and removing keep them in the area, apart, and as they were placed.
use mathlib.Core.Path.{◌≡◌, refl, sym, ◌∙◌}
use mathlib.Core.Bool.{Bool, true, false}
use mathlib.Core.List.{List}
use mathlib.Core.Logic.{◌⊎◌, inl, inr, ⊎_elim}
use Prim.Native.Nat.{ℕ, ◌+◌, ◌<◌, ◌≤◌}
use native.Mathlib.Omega.{arith}
use borrow.Author.Tests.{eqb-true, eqb-false, eq-eqb, ne_eqb}
use lib.Dec.{eqb}
use lib.ListN.{length, get_or, set, length-set}
use lib.Seq.{sets, get_or-set_same, get_or-set_other}
use Rattle.common.specs.Answers.{served}
use Rattle.common.specs.Choice.{if}
use Rattle.common.specs.Sizes.{ram_bytes}
use Rattle.common.proofs.Tests.{both_true, clash}
use Rattle.lists.specs.declared.Area.{Area}
use Rattle.lists.specs.Area.{lower, upper, standing, has}
use Rattle.lists.specs.Room.{start_of, end_of, place_of, place_at, Fits}
use Rattle.lists.specs.Place.{askable, FreeHandle, with_list, Placed, Places, other_length, not_askable, all_placed, no_gap, placed}
use Rattle.lists.specs.Remove.{without_list}
use Rattle.lists.proofs.Bits.{none-on, more-others, less-off, less-others}
use Rattle.lists.proofs.Bounds.{Askable, askable-is}
use Rattle.lists.proofs.Stored.{bytes-before, bytes_in, bytes_after, place-start, place_end}

-- a handle that has a list; a place in the area; places apart; a place that has these bytes in RAM
pub record Has (area : Area) (k : ℕ) : Type 0 where
  pub handle : k < 64
  pub taken : has area k ≡ true

pub record Within (area : Area) (p : ℕ) : Type 0 where
  pub above : lower area ≤ start_of p
  pub some : start_of p < end_of p
  pub below : end_of p ≤ upper area

abbrev pub Apart : ℕ → ℕ → Type 0
Apart p q = (end_of p ≤ start_of q) ⊎ (end_of q ≤ start_of p)

pub record HasBytes (ram : List ℕ) (p : ℕ) (bytes : List ℕ) : Type 0 where
  pub size : start_of p + length bytes ≡ end_of p
  pub same : (i : ℕ) → i < length bytes → get_or ram (start_of p + i) 0 ≡ get_or bytes i 0

pub record Kept (area : Area) (places ram : List ℕ) (contents : ℕ → List ℕ) : Type 0 where
  pub slots : length places ≡ 64
  pub stands : (k : ℕ) → Has area k → standing area ≡ true
  pub inside : (k : ℕ) → Has area k → Within area (place_at places k)
  pub apart : (j k : ℕ) → Has area j → Has area k → (j ≡ k → ⊥) → Apart (place_at places j) (place_at places k)
  pub holds : (k : ℕ) → Has area k → HasBytes ram (place_at places k) (contents k)

-- two handles are the same or not
by-test : {P : Type 0} (a b : ℕ) (t : Bool) → eqb a b ≡ t → (a ≡ b → P) → ((a ≡ b → ⊥) → P) → P
by-test a b true e f g = f (eqb-true a b e)
by-test a b false e f g = g (eqb-false a b e)

pub same_or_not : {P : Type 0} (a b : ℕ) → (a ≡ b → P) → ((a ≡ b → ⊥) → P) → P
same_or_not a b = by-test a b (eqb a b) refl

-- ---- an area with no list
pub kept-none : {area : Area} {places ram : List ℕ} {contents : ℕ → List ℕ} → area.used ≡ 0 → length places ≡ 64 → Kept area places ram contents
kept-none {area} is size =
    record {
      slots = size;
      stands = λ k h. none k h;
      inside = λ k h. none k h;
      apart = λ j k h i d. none k i;
      holds = λ k h. none k h;
    }
  where
    none : {P : Type 0} (k : ℕ) → Has area k → P
    none k h = absurd (clash (rw is at h.taken) (none-on k))

module _ (area : Area) (places ram : List ℕ) (contents : ℕ → List ℕ) (kept : Kept area places ram contents) where
  -- ---- a list removed: those that have one had it before
  module _ (h : ℕ) (on : has area h ≡ true) where
    pub had : (k : ℕ) → Has (without_list area h) k → Has area k
    had k some =
        same_or_not k h (λ e. absurd (clash (rw e at some.taken) (less-off h area.used on)))
        (λ d. record { handle = some.handle; taken = sym (less-others h area.used on k d) ∙ some.taken })

    pub kept_less : Kept (without_list area h) places ram contents
    unfolding standing
    kept_less =
        record {
          slots = kept.slots;
          stands = λ k some. kept.stands k (had k some);
          inside =
              λ k some.
              let old = kept.inside k (had k some) in
              record { above = old.above; some = old.some; below = old.below };
          apart = λ j k i some. kept.apart j k (had j i) (had k some);
          holds = λ k some. kept.holds k (had k some);
        }

  -- ---- a list placed
  module _ (list : List ℕ) (h a : ℕ) (long : length ram ≡ ram_bytes) (ask : Askable area (length list)) (area-stands : standing area ≡ true) (free : FreeHandle area h)
      (fits : Fits area places (length list) a) where
    abbrev new : ℕ
    new = place_of a (length list)

    small : a + length list ≤ ram_bytes
    small = omega (arith, fits.below, ask.proper.small)

    starts : start_of new ≡ a
    starts = place-start a (length list) fits.even ask.even ask.some small

    ends : end_of new ≡ a + length list
    ends = place_end a (length list) fits.even ask.even ask.some small

    here : place_at (set places h new) h ≡ new
    here = get_or-set_same places h new 0 (omega (arith, kept.slots, free.below))

    there : (k : ℕ) → (k ≡ h → ⊥) → place_at (set places h new) k ≡ place_at places k
    there k d = get_or-set_other places h k new 0 d

    held : (k : ℕ) → (k ≡ h → ⊥) → Has (with_list area h) k → Has area k
    held k d some = record { handle = some.handle; taken = sym (more-others h area.used free.free k d) ∙ some.taken }

    -- the new place, and the others
    new-within : Within (with_list area h) new
    new-within =
        record { above = rw starts fits.above; some = rw (starts, ends) (omega (arith, ask.some)); below = rw ends fits.below }

    clear : (k : ℕ) → Has area k → Apart new (place_at places k)
    clear k some =
        ⊎_elim (λ w. inl (omega (arith, ends))) (λ w. inr (omega (arith, starts))) (fits.between k some.handle some.taken)

    new-bytes : HasBytes (sets ram a list) new list
    new-bytes =
        record {
          size = rw (starts, ends);
          same = λ i g. rw starts (bytes_in ram a list i (omega (arith, small, long)) g);
        }

    old-bytes : (k : ℕ) → Has area k → HasBytes (sets ram a list) (place_at places k) (contents k)
    old-bytes k some =
        let old = kept.holds k some in
        record {
          size = old.size;
          same =
              λ i g.
              ⊎_elim (λ w. bytes_after ram a list (start_of (place_at places k) + i) (omega (arith, ends)))
              (λ w. bytes-before ram a list (start_of (place_at places k) + i) (omega (arith, starts, old.size)))
              (clear k some)
              ∙ old.same i g;
        }

    -- what was placed, with the new list
    abbrev more : ℕ → List ℕ
    more k = if (eqb k h) list (contents k)

    kept_more : Kept (with_list area h) (set places h new) (sets ram a list) more
    unfolding standing
    kept_more =
        record {
          slots = length-set places h new ∙ kept.slots;
          stands = λ k some. area-stands;
          inside =
              λ k some.
              same_or_not k h (λ e. rw (e, here) new-within)
              (λ d.
              let old = kept.inside k (held k d some) in
              rw (there k d) (record { above = old.above; some = old.some; below = old.below }));
          apart =
              λ j k i some ne.
              same_or_not j h
              (λ e.
              let d : k ≡ h → ⊥ = λ f. ne (e ∙ sym f) in
              rw (e, here, there k d) (clear k (held k d some)))
              (λ d.
              same_or_not k h (λ e. rw (e, here, there j d) (⊎_elim inr inl (clear j (held j d i))))
              (λ f. rw (there j d, there k f) (kept.apart j k (held j d i) (held k f some) ne)));
          holds =
              λ k some.
              same_or_not k h (λ e. rw (e, eq-eqb h h refl, here) new-bytes)
              (λ d. rw (there k d, ne_eqb k h d) (old-bytes k (held k d some)));
        }

-- ---- placing, served or refused
abbrev pub recorded : (ℕ → List ℕ) → Placed → List ℕ → ℕ → List ℕ
recorded contents r list = served r.answer (λ k. if (eqb k r.handle) list (contents k)) contents

pub kept-placed :
    {area : Area} {places ram list places' ram' : List ℕ} {contents : ℕ → List ℕ} {r : Placed} → Kept area places ram contents →
    Places area places ram list places' ram' r → Kept r.area places' ram' (recorded contents r list)
unfolding askable
kept-placed kept (other_length long) = kept
kept-placed kept (not_askable long ask) = kept
kept-placed kept (all_placed long ask all) = kept
kept-placed kept (no_gap long ask free none) = kept
kept-placed {area} {places} {ram} {list} {contents = contents} kept (placed {handle} {a} long ask free low) =
    let stands = (both_true (standing area) _ ask).0 in kept_more area places ram contents kept list handle a long (askable-is _ _ ask) stands free low.fits

-- it changes no byte of a place in use, and takes no handle that is in use
pub record Leaves (area area' : Area) (places places' ram ram' : List ℕ) : Type 0 where
  pub bytes :
      (k : ℕ) → Has area k → (i : ℕ) → start_of (place_at places k) ≤ i → i < end_of (place_at places k) → get_or ram' i 0 ≡ get_or ram i 0
  pub has-still : (k : ℕ) → Has area k → Has area' k
  pub place_still : (k : ℕ) → Has area k → place_at places' k ≡ place_at places k

pub leaves_self : {area : Area} {places ram : List ℕ} → Leaves area area places places ram ram
leaves_self = record { bytes = λ k h i l g. refl; has-still = λ k h. h; place_still = λ k h. refl }

pub placed_leaves :
    {area : Area} {places ram list places' ram' : List ℕ} {r : Placed} → Places area places ram list places' ram' r →
    Leaves area r.area places places' ram ram'
placed_leaves (other_length long) = leaves_self
placed_leaves (not_askable long ask) = leaves_self
placed_leaves (all_placed long ask all) = leaves_self
placed_leaves (no_gap long ask free none) = leaves_self
placed_leaves {area} {places} {ram} {list} (placed {handle} {a} long ask free low) =
    record {
      bytes =
          λ k h i l g.
          ⊎_elim (λ w. bytes_after ram a list i (omega arith)) (λ w. bytes-before ram a list i (omega arith))
          (low.fits.between k h.handle h.taken);
      has-still = λ k h. record { handle = h.handle; taken = more-others handle area.used free.free k (other k h) ∙ h.taken };
      place_still = λ k h. get_or-set_other places handle k (place_of a (length list)) 0 (other k h);
    }
  where
    other : (k : ℕ) → Has area k → k ≡ handle → ⊥
    other k h e = clash h.taken (rw e free.free)
