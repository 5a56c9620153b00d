-- A line's entries, one after the other.
use mathlib.Core.Path.{◌≡◌, refl, ◌∙◌}
use mathlib.Core.List.{List}
use Prim.Native.Nat.{ℕ, ◌+◌, ◌-◌, ◌<◌, ◌≤◌}
use borrow.Author.Tests.{ne_eqb, lt-ltb, le-ltb, le-leb, lt-leb}
use native.Mathlib.Omega.{arith}
use borrow.Rule.Slice.PartMut.{put_mid}
use Rattle.std.proofs.Common.{rules}
use Rattle.std.specs.List.{slice_range}
use Rattle.std.proofs.lemmas.List.{places, get_or-replicate}
use Rattle.std.proofs.lemmas.List.Edits.{length-between, get_or-between}
use lib.ListN.{length, get_or, set, replicate}
use lib.Seq.{get_or-set_same, get_or-set_other}
use Rattle.common.proofs.Order.{either_side}
use Rattle.screen.specs.MainLine.{LinePens}
use Rattle.overlay.specs.Overlay.{first_on, pixel_on}
use Rattle.overlay.specs.Kept.{AllSized}
use Rattle.overlay.specs.Stretches.{sprite, cover_pixel, first_cover, Spanned, Joined as JoinedBy, Covered}
use Rattle.overlay.specs.Spans.{Joined}
use Rattle.overlay.specs.declared.shown.LineSprite.{LineSprite}
use Rattle.overlay.specs.declared.shown.LineSprites.{LineSprites}
use Rattle.overlay.specs.declared.shown.Spans.{Spans}
use Rattle.overlay.specs.declared.Stretch.{Stretch}
use Rattle.overlay.proofs.Search.{search-more, search-found}
use Rattle.overlay.proofs.Covers.{covers_show, covered}
use Rattle.draw.specs.declared.layout.Edges.{Edges}
use Rattle.draw.specs.declared.layout.Main.{Main}
use Rattle.draw.specs.Mixing.{main_at, over_at, covered_at, mixed_at, Has, Changed}

-- a part that is changed from its start on
module _ {f : ℕ → ℕ → ℕ} {from : ℕ} {before : List ℕ} where
  module _ {x : ℕ} {l : List ℕ} (c : Changed f from x before l) where
    -- one entry more: written, or right as it stands
    pub changed-more : {v : ℕ} → from ≤ x → x < length l → v ≡ f x (get_or before x 0) → Changed f from (x + 1) before (set l x v)
    changed-more {v} past room here =
        record {
          inside =
              λ p g h.
              either_side p x (λ less. get_or-set_other l x p v 0 (λ e. omega arith) ∙ c.inside p g less)
              (λ more. let e : p ≡ x = omega arith in rw e (get_or-set_same l x v 0 room ∙ here));
          below = λ p h. get_or-set_other l x p v 0 (λ e. omega arith) ∙ c.below p h;
          beyond = λ p h. get_or-set_other l x p v 0 (λ e. omega arith) ∙ c.beyond p (omega arith);
        }

    pub changed-kept : get_or before x 0 ≡ f x (get_or before x 0) → Changed f from (x + 1) before l
    changed-kept here =
        record {
          inside =
              λ p g h.
              either_side p x (λ less. c.inside p g less)
              (λ more. let e : p ≡ x = omega arith in rw e (c.beyond x (omega arith) ∙ here));
          below = c.below;
          beyond = λ p h. c.beyond p (omega arith);
        }

    -- one part more
    pub changed-on : {to : ℕ} {after : List ℕ} → from ≤ x → x ≤ to → Changed f x to l after → Changed f from to before after
    changed-on {to} {after} past more d =
        record {
          inside =
              λ p g h.
              either_side p x (λ less. d.below p less ∙ c.inside p g less)
              (λ upper. d.inside p upper h ∙ rw (c.beyond p upper));
          below = λ p h. d.below p (omega arith) ∙ c.below p h;
          beyond = λ p h. d.beyond p h ∙ c.beyond p (omega arith);
        }

-- another function that gives the same there
pub changed-same :
    {f g : ℕ → ℕ → ℕ} {from to : ℕ} {before after : List ℕ} → Changed f from to before after →
    ((x v : ℕ) → from ≤ x → x < to → f x v ≡ g x v) → Changed g from to before after
changed-same c same =
    record { inside = λ x g h. c.inside x g h ∙ same x _ g h; below = c.below; beyond = c.beyond }

-- the search at a position, among those that cover it: number k has this pixel there
module _ (store : List ℕ) (list : List LineSprite) (covers : List ℕ) (x k : ℕ) {pixel : ℕ}
    (its : pixel ≡ pixel_on store (sprite list (get_or covers k 0)) x) (none : first_cover store list covers x k ≡ 0) where
  pub search-on : pixel ≡ 0 → first_cover store list covers x (k + 1) ≡ 0
  unfolding first_cover cover_pixel
  search-on transparent = search-more (cover_pixel store list covers x) k none its transparent

  pub sprite-entry : (count v : ℕ) → k < count → (pixel ≡ 0 → ⊥) → 16 + pixel ≡ covered_at store list covers count x v
  unfolding first_cover cover_pixel covered_at
  sprite-entry count v h opaque =
      rw (search-found (cover_pixel store list covers x) k none its count h opaque, ne_eqb pixel 0 opaque)

pub no_cover : (store : List ℕ) (list : List LineSprite) (covers : List ℕ) (x : ℕ) → first_cover store list covers x 0 ≡ 0
unfolding first_cover
no_cover store list covers x = refl

pub no_entry :
    (store : List ℕ) (list : List LineSprite) (covers : List ℕ) (count x v : ℕ) → first_cover store list covers x count ≡ 0 →
    v ≡ covered_at store list covers count x v
unfolding covered_at
no_entry store list covers count x v none = rw none

-- with none that covers it nothing is laid on a stretch
pub none_covers :
    (store : List ℕ) (list : List LineSprite) (covers : List ℕ) {before : List ℕ} {count from to : ℕ} → count ≡ 0 →
    Changed (covered_at store list covers count) from to before before
unfolding covered_at first_cover
none_covers store list covers none = record { inside = λ x g h. rw none; below = λ x h. refl; beyond = λ x h. refl }

-- what is left of a line falls from one position to a later one
pub measure_falls : {x y to : ℕ} → x < y → y ≤ to → to - y < to - x
measure_falls less most = omega arith

-- the sprites on a line are sixteen at most, and each that is kept has its size
pub ready : (shown : LineSprites) → (shown.count ≤ 16) × AllSized shown.list shown.count
ready shown = (shown.bound, shown.sized)

-- those that cover a stretch
module _ {shown : LineSprites} {spans : Spans} {covers : List ℕ} {from end : ℕ} {s : Stretch} (spanned : Spanned shown spans)
    (joined : Joined spans from end covers s) where
  of_all : JoinedBy spans.ends spans.starts shown.count from end covers s
  of_all = rw spanned.total at joined

  -- each of them covers all of it
  pub stretch_covered : Covered shown.list covers s from
  stretch_covered = covered spanned.starts (ready shown) spanned.ends of_all

  -- and they show what the sprites on the line do
  pub stretch_same :
      (store : List ℕ) (x v : ℕ) → from ≤ x → x < s.until →
      covered_at store shown.list covers s.count x v ≡ over_at store shown.list shown.count x v
  unfolding covered_at over_at
  stretch_same store x v past near = rw (covers_show spanned.starts (ready shown) spanned.ends of_all store x past near)

-- with no sprite at all nothing is laid
pub none_laid : (store : List ℕ) (list : List LineSprite) {before : List ℕ} {count from to : ℕ} → count ≡ 0 → Changed (over_at store list count) from to before before
unfolding over_at first_on
none_laid store list none = record { inside = λ x g h. rw none; below = λ x h. refl; beyond = λ x h. refl }

-- a line's pens give the main pen: its lead of 16 shows left of the scroll
pens_main :
    {ram pens : List ℕ} (m : Main) → LinePens ram m.mode m.address m.row pens → (x : ℕ) → x < 640 →
    get_or pens (x + (16 - m.scroll)) 0 ≡ main_at ram m x
unfolding main_at
pens_main m line x h =
    either_side x m.scroll (λ less. rw (lt-ltb x m.scroll less) (line.lead (x + (16 - m.scroll)) (omega arith)))
    (λ more.
    let e : x + (16 - m.scroll) ≡ 16 + (x - m.scroll) = omega arith in
    rw (le-ltb x m.scroll more, e) (line.pen (x - m.scroll) (omega arith)))

-- a part of a line is copied
module _ (from to : ℕ) (line part : List ℕ) (order : from ≤ to) (inside : to ≤ length line) (long : length part ≡ to - from) where
  copied-below : (x : ℕ) → x < from → get_or (put_mid from (to - from) line part) x 0 ≡ get_or line x 0
  copied-below x h = search (rules, places)

  copied-inside : (x : ℕ) → from ≤ x → x < to → get_or (put_mid from (to - from) line part) x 0 ≡ get_or part (x - from) 0
  copied-inside x h g = search (rules, places)

  copied-beyond : (x : ℕ) → to ≤ x → get_or (put_mid from (to - from) line part) x 0 ≡ get_or line x 0
  copied-beyond x h = search (rules, places)

-- from its pens
module _ {ram pens before : List ℕ} (m : Main) (from to : ℕ) (line : LinePens ram m.mode m.address m.row pens)
    (order : from ≤ to) (inside : to ≤ 640) (long : length before ≡ 640) where
  pub main_laid :
      {part : List ℕ} → part ≡ slice_range pens (from + (16 - m.scroll)) (to + (16 - m.scroll)) →
      Changed (λ x v. main_at ram m x) from to before (put_mid from (to - from) before part)
  main_laid {part} is =
      let lead : ℕ = 16 - m.scroll in
      let size : length part ≡ to - from = rw is (length-between pens (from + lead) (to + lead) (omega (arith, line.size)) ∙ omega arith) in
      let room : to ≤ length before = omega arith in
      record {
        inside =
            λ x h g.
            let e : from + lead + (x - from) ≡ x + lead = omega arith in
            let its : get_or part (x - from) 0 ≡ main_at ram m x =
            rw (is, get_or-between pens (from + lead) (to + lead) (x - from) 0 (omega arith), e) (pens_main m line x (omega arith)) in
            copied-inside from to before part order room size x h g ∙ its;
        below = copied-below from to before part order room size;
        beyond = copied-beyond from to before part order room size;
      }

-- a line that is filled
pub filled : {l : List ℕ} (v : ℕ) → l ≡ replicate 640 v → Has (λ x. v) 640 l
filled v is = record { entry = λ x h. rw is (get_or-replicate 640 x v 0 h) }

-- border, then the main screen over it, then the sprites over those
module _ (ram : List ℕ) (main : Main) (shown : LineSprites) (store : List ℕ) (edges : Edges) where
  pub border_mixed : {l : List ℕ} → edges.right ≤ edges.left → Has (λ x. 16) 640 l → Has (mixed_at ram main shown store edges) 640 l
  unfolding mixed_at
  border_mixed empty border =
      record {
        entry =
            λ x h.
            either_side x edges.left (λ less. rw (lt-ltb x edges.left less) (border.entry x h))
            (λ more.
            rw (le-ltb x edges.left more, le-leb edges.right x (omega arith)) (border.entry x h));
      }

  pub all_mixed :
      {l m n : List ℕ} → Has (λ x. 16) 640 l → Changed (λ x v. main_at ram main x) edges.left edges.right l m →
      Changed (over_at store shown.list shown.count) edges.left edges.right m n → Has (mixed_at ram main shown store edges) 640 n
  unfolding mixed_at
  all_mixed border laid over =
      record {
        entry =
            λ x h.
            either_side x edges.left
            (λ less. rw (lt-ltb x edges.left less) (over.below x less ∙ laid.below x less ∙ border.entry x h))
            (λ more.
            either_side x edges.right
            (λ inside.
            rw (le-ltb x edges.left more, lt-leb edges.right x inside)
            (over.inside x more inside ∙ rw (laid.inside x more inside)))
            (λ beyond.
            rw (le-ltb x edges.left more, le-leb edges.right x beyond)
            (over.beyond x beyond ∙ laid.beyond x beyond ∙ border.entry x h)));
      }
