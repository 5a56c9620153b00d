-- The first that shows: of so many, of those on a line as the list is made, and in a search.
use mathlib.Core.Path.{◌≡◌, refl, sym, ap, ◌∙◌}
use mathlib.Core.List.{List}
use Prim.Native.Nat.{ℕ, zero, suc, ◌+◌, ◌<◌, ◌≤◌}
use native.Mathlib.Numerals.{add-one}
use native.Mathlib.Omega.{arith}
use borrow.Author.Count.{below_more}
use borrow.Author.Tests.{ne_eqb}
use lib.Dec.{eqb, eqb-suc-zero}
use lib.ListN.{length, get_or, set}
use lib.Seq.{get_or-set_same, get_or-set_other}
use Rattle.common.specs.Choice.{if}
use Rattle.picture.specs.Sprites.{off_sprite}
use Rattle.picture.specs.SpriteLine.{pixel_at}
use Rattle.picture.specs.declared.sprite.Sprite.{Sprite}
use Rattle.overlay.specs.declared.shown.LineSprite.{LineSprite}
use Rattle.overlay.specs.Kept.{no_line_sprite, AllSized, Sized}
use Rattle.overlay.specs.Overlay.{first_of, first_pixel, pixel_on, first_on}
use Rattle.common.proofs.Order.{either_side}

-- the first of so many depends on those alone
first-same : (f g : ℕ → ℕ) (n : ℕ) → ((k : ℕ) → k < n → f k ≡ g k) → first_of f n ≡ first_of g n
first-same f g zero same = refl
first-same f g (suc n) same = rw (first-same f g n (λ k h. same k (omega arith)), same n (omega arith))

-- one more, after those of another function
pub first_more : (f g : ℕ → ℕ) (n : ℕ) → ((k : ℕ) → k < n → f k ≡ g k) → first_of f (n + 1) ≡ if (eqb (first_of g n) 0) (f n) (first_of g n)
first_more f g n same = rw (add-one, first-same f g n same)

unshown : (v : ℕ) → if (eqb v 0) 0 v ≡ v
unshown zero = refl
unshown (suc v) = rw (eqb-suc-zero v)

-- one more that doesn't show changes nothing
pub first-still : (f : ℕ → ℕ) (n : ℕ) → f n ≡ 0 → first_of f (n + 1) ≡ first_of f n
first-still f n quiet = first_more f f n (λ k h. refl) ∙ rw quiet (unshown (first_of f n))

pub first-quiet : (f : ℕ → ℕ) (n : ℕ) → ((k : ℕ) → k < n → f k ≡ 0) → first_of f n ≡ 0
first-quiet f zero quiet = refl
first-quiet f (suc n) quiet = rw (first-quiet f n (λ k h. quiet k (omega arith)), quiet n (omega arith))

-- once one has shown, the others change nothing
first-stays : (f : ℕ → ℕ) (m n : ℕ) → m ≤ n → (first_of f m ≡ 0 → ⊥) → first_of f n ≡ first_of f m
first-stays f m zero h shown = let e : m ≡ 0 = omega arith in rw e
first-stays f m (suc n) h shown =
    either_side n m (λ less. let e : m ≡ suc n = omega arith in rw e)
    (λ more. let e : first_of f n ≡ first_of f m = first-stays f m n more shown in rw (e, ne_eqb (first_of f m) 0 shown))

-- a search that found nothing below k: at k nothing, or the pixel that all of them show
module _ (f : ℕ → ℕ) (k : ℕ) {p : ℕ} (none : first_of f k ≡ 0) (here : p ≡ f k) where
  turn : first_of f (k + 1) ≡ p
  turn = rw (add-one, none, here)

  pub search-more : p ≡ 0 → first_of f (k + 1) ≡ 0
  search-more h = turn ∙ h

  pub search-found : (count : ℕ) → k < count → (p ≡ 0 → ⊥) → first_of f count ≡ p
  search-found count h shown = first-stays f (k + 1) count (omega arith) (λ e. shown (sym turn ∙ e)) ∙ turn

-- of the first n sprites the line shows what they have there, and each that is kept has its size
pub record ShowsFirst (sprites : List Sprite) (y n : ℕ) (list : List LineSprite) (count : ℕ) : Type 0 where
  pub sized : AllSized list count
  pub shows : (store : List ℕ) (x : ℕ) → first_on store list x count ≡ first_pixel store sprites y x n

pub shows-none : {sprites : List Sprite} {y : ℕ} {list : List LineSprite} → ShowsFirst sprites y 0 list 0
unfolding first_on first_pixel
shows-none = record { sized = λ k h. absurd (omega arith); shows = λ store x. refl }

-- one sprite more, which has no pixel on the line, or a place at the list's end
module _ {sprites : List Sprite} {y n : ℕ} {list : List LineSprite} {count : ℕ} (before : ShowsFirst sprites y n list count) where
  abbrev sprite : Sprite
  sprite = get_or sprites n off_sprite

  pub shows_same : ((store : List ℕ) (x : ℕ) → pixel_at store n sprite y x ≡ 0) → ShowsFirst sprites y (n + 1) list count
  unfolding first_pixel
  shows_same quiet =
      record {
        sized = before.sized;
        shows =
            λ store x.
            before.shows store x ∙ sym (first-still (λ k. pixel_at store k (get_or sprites k off_sprite) y x) n (quiet store x));
      }

  pub shows_more :
      {e : LineSprite} → ((store : List ℕ) (x : ℕ) → pixel_on store e x ≡ pixel_at store n sprite y x) → Sized e → count < length list →
      ShowsFirst sprites y (n + 1) (set list count e) (count + 1)
  unfolding first_on first_pixel
  shows_more {e} row size room =
      record {
        sized =
            below_more _ count (λ k h. rw (get_or-set_other list count k e no_line_sprite (λ q. omega arith)) (before.sized k h))
            (rw (get_or-set_same list count e no_line_sprite room) size);
        shows =
            λ store x.
            first_more (λ k. pixel_on store (get_or (set list count e) k no_line_sprite) x) (λ k. pixel_on store (get_or list k no_line_sprite) x) count
            (λ k h. ap (λ d. pixel_on store d x) (get_or-set_other list count k e no_line_sprite (λ q. omega arith))) ∙
            rw (before.shows store x, get_or-set_same list count e no_line_sprite room, row store x, add-one);
      }
