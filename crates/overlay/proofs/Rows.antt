-- A sprite on one line: its magnification, its row, and what it shows.
use mathlib.Core.Path.{◌≡◌, refl}
use mathlib.Core.Bool.{true, false}
use mathlib.Core.List.{List}
use Prim.Native.Nat.{ℕ, zero, suc, ◌+◌, ◌*◌, ◌/◌, ◌%◌, ◌<◌, ◌≤◌}
use native.Mathlib.Omega.{arith}
use borrow.Author.Tests.{lt-ltb, le-ltb}
use lib.Dec.{ltb}
use lib.IntN.{ℤ, pos, negsuc, ◌-ℤ◌}
use lib.ListN.{get_or}
use Rattle.std.specs.Prelude.{Option, Some, None}
use Rattle.common.specs.Choice.{if}
use Rattle.picture.specs.declared.sprite.Sprite.{Sprite}
use Rattle.picture.specs.SpriteLine.{y_scale, x_scale, cell_at, pixel_at}
use Rattle.overlay.specs.Kept.{Magnification, Sized}
use Rattle.overlay.specs.Overlay.{divided, Cell, OnLine, pixel_on}

-- 1, 2 and 4 are not 0
pub on_some : (m : ℕ) → Magnification m → (m ≡ 0 → ⊥)
on_some zero is e = omega (arith, is.four (λ f. omega arith) (λ f. omega arith))
on_some (suc m) is e = omega arith

-- divided by one of these is the quotient
pub divided-is : (n m : ℕ) → Magnification m → divided n m ≡ n / m
divided-is n zero is = let no = is.four (λ e. omega arith) (λ e. omega arith) in absurd (omega arith)
divided-is n (suc zero) is = omega arith
divided-is n (suc (suc zero)) is = refl
divided-is n (suc (suc (suc m))) is = let e = is.four (λ e. omega arith) (λ e. omega arith) in rw e

-- what lies at a distance, by the quotient
pub cell_before : (m n : ℕ) (f : ℕ → ℕ) → cell_at m (negsuc n) f ≡ 0
cell_before zero n f = refl
cell_before (suc m) n f = refl

pub cell_beyond : (m n : ℕ) (f : ℕ → ℕ) → 16 ≤ n / m → cell_at m (pos n) f ≡ 0
cell_beyond zero n f h = refl
cell_beyond (suc m) n f h = rw (le-ltb (n / suc m) 16 h)

pub cell_inside : (m n : ℕ) (f : ℕ → ℕ) → (m ≡ 0 → ⊥) → n / m < 16 → cell_at m (pos n) f ≡ f (n / m)
cell_inside zero n f on h = absurd (on refl)
cell_inside (suc m) n f on h = rw (lt-ltb (n / suc m) 16 h)

zero-all : (scale : ℕ) (d : ℤ) → cell_at scale d (λ n. 0) ≡ 0
zero-all zero d = refl
zero-all (suc m) (pos d) = elim (ltb (d / suc m) 16) as (λ t. ◌≡◌ {A = ℕ} (if t 0 0) 0) [ true ↦ refl | false ↦ refl ]
zero-all (suc m) (negsuc d) = refl

-- a sprite on line y
module _ (s : Sprite) (y : ℕ) where
  abbrev row_of : List ℕ → ℕ → ℕ → ℕ → ℕ
  row_of store n x r = cell_at (x_scale s) (pos x -ℤ s.x) (λ k. get_or store (n * 256 + r * 16 + k) 0 % 16)

  pub none-across : x_scale s ≡ 0 → (store : List ℕ) (n x : ℕ) → pixel_at store n s y x ≡ 0
  unfolding pixel_at
  none-across off store n x = rw off (zero-all (y_scale s) (pos y -ℤ s.y))

  pub on_line_lem : (r : Option ℕ) → Cell (y_scale s) (pos y -ℤ s.y) r → OnLine s y r
  unfolding pixel_at
  on_line_lem None cell = λ store n x. cell.gives (row_of store n x)
  on_line_lem (Some row) cell = cell

  -- as the line keeps it, it has its size, and shows what it has there
  module _ {row across : ℕ} {z : ℤ} (cell : Cell (y_scale s) (pos y -ℤ s.y) (Some row)) (is : across ≡ x_scale s) where
    pub its-size : (n : ℕ) → Magnification across → n < 16 → Sized (record { x = z; magnification = across; pixels = n * 256 + row * 16 })
    its-size n on h = record { magnified = on; stored = omega (arith, cell.bound) }

    pub its-row :
        (n : ℕ) → z ≡ s.x → (store : List ℕ) (x : ℕ) →
        pixel_on store (record { x = z; magnification = across; pixels = n * 256 + row * 16 }) x ≡ pixel_at store n s y x
    unfolding pixel_on pixel_at
    its-row n at store x = rw (cell.gives (row_of store n x), is, at)
