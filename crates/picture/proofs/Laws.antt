-- 01, "The register page": what the bits of a coordinate mean, and that a low byte reads back as it was written.
use mathlib.Core.Path.{◌≡◌, refl}
use mathlib.Core.Bool.{Bool, true, false}
use Prim.Native.Nat.{ℕ, ◌+◌, ◌-◌, ◌*◌, ◌/◌, ◌<◌, ◌≤◌}
use native.Mathlib.Nat.{mod-lt, mod-eq_of_lt}
use native.Mathlib.Omega.{arith}
use borrow.Author.Tests.{le-leb, lt-leb}
use lib.Dec.{leb}
use lib.IntN.{ℤ, pos, negsuc}
use Rattle.common.specs.Choice.{if}
use Rattle.picture.specs.Sprites.{raw_of, coordinate, x_of, low_shown, written, shown}
use Rattle.picture.specs.declared.sprite.Sprite.{Sprite}

module _ (m limit raw : ℕ) where
  pub below_limit : raw < limit → coordinate m limit raw ≡ pos raw
  unfolding coordinate
  below_limit h = rw (lt-leb limit raw)

  pub from_limit : limit ≤ raw → coordinate m limit raw ≡ negsuc (m - 1 - raw)
  unfolding coordinate
  from_limit h = rw (le-leb limit raw)

-- X is raw below 768, and -(1024 - raw) from there on: 768 is -256 and 1023 is -1
pub x-positive : (raw : ℕ) → raw < 768 → x_of raw ≡ pos raw
x-positive raw = below_limit 1024 768 raw

pub x-negative : (raw : ℕ) → 768 ≤ raw → x_of raw ≡ negsuc (1023 - raw)
x-negative raw = from_limit 1024 768 raw

pub x-ends : (x_of 768 ≡ negsuc 255) × (x_of 1023 ≡ negsuc 0)
unfolding coordinate
x-ends = (refl, refl)

-- the bits of a number are below the modulus
pub raw_below : (m : ℕ) (z : ℤ) → 0 < m → raw_of m z < m
raw_below m (pos n) h = mod-lt n h
raw_below m (negsuc n) h = omega arith

-- and those of the number with these bits are these
either_sign : (m raw : ℕ) (b : Bool) → raw < m → raw_of m (if b (negsuc (m - 1 - raw)) (pos raw)) ≡ raw
either_sign m raw true h = rw (mod-eq_of_lt {n = m - 1 - raw} {m = m} (omega arith)) (omega arith)
either_sign m raw false h = mod-eq_of_lt h

pub raw_back : (m limit raw : ℕ) → raw < m → raw_of m (coordinate m limit raw) ≡ raw
unfolding coordinate
raw_back m limit raw h = either_sign m raw (leb limit raw) h

-- a low byte reads back, whatever the coordinate was; the modulus is some high values of 256 each
low-back : (highs limit : ℕ) (z : ℤ) (b : ℕ) → 0 < highs → b < 256 →
    low_shown (highs * 256) (coordinate (highs * 256) limit (raw_of (highs * 256) z / 256 * 256 + b)) ≡ b
low-back highs limit z b some byte =
    rw (raw_back (highs * 256) limit (raw_of (highs * 256) z / 256 * 256 + b)
    (omega (arith, raw_below (highs * 256) z (omega arith))))
    (omega arith)

module _ (s : Sprite) (b : ℕ) (byte : b < 256) where
  pub x-low-back : shown (written s 0 b) 0 ≡ b
  unfolding shown written
  x-low-back = low-back 4 768 s.x b (omega arith) byte

  pub y_low-back : shown (written s 2 b) 2 ≡ b
  unfolding shown written
  y_low-back = low-back 2 256 s.y b (omega arith) byte
