-- 01, "Drawing the current line": which pixel of a sprite lies at a position.
use Rattle.std.specs.Prelude.{List, ℕ, zero, suc, ◌+◌, ◌*◌, ◌/◌, ◌%◌, ltb, ℤ, pos, negsuc, ◌-ℤ◌, get_or}
use Rattle.common.specs.Choice.{if}
use Rattle.picture.specs.declared.sprite.Sprite.{Sprite}

-- a magnification's code: off, 1, 2, 4; off is 0 here
abbrev pub scale_of : ℕ → ℕ
scale_of zero = 0
scale_of (suc zero) = 1
scale_of (suc (suc zero)) = 2
scale_of (suc (suc (suc code))) = 4

-- bits 3-2 are for X, 1-0 for Y
abbrev pub x_scale : Sprite → ℕ
x_scale s = scale_of (s.magnification / 4 % 4)

abbrev pub y_scale : Sprite → ℕ
y_scale s = scale_of (s.magnification % 4)

-- by the distance from the sprite's edge, which is signed, at a scale: what the function gives for the row or column there, if the
-- distance is at least 0 and the result below 16; with the scale off, and outside, nothing
abbrev pub cell_at : ℕ → ℤ → (ℕ → ℕ) → ℕ
cell_at zero d f = 0
cell_at (suc m) (pos d) f = if (ltb (d / suc m) 16) (f (d / suc m)) 0
cell_at (suc m) (negsuc d) f = 0

-- the pixel of sprite n at line y and position x, of which the low 4 bits count; 0 where it covers nothing, and 0 is no pixel
unfoldable pub pixel_at : List ℕ → ℕ → Sprite → ℕ → ℕ → ℕ
pixel_at store n s y x =
    cell_at (y_scale s) (pos y -ℤ s.y)
    (λ row. cell_at (x_scale s) (pos x -ℤ s.x) (λ column. get_or store (n * 256 + row * 16 + column) 0 % 16))
