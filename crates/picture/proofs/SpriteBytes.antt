-- 02, L5: a write sets one byte of a sprite's contents; within the widths the bytes tell the sprite, and a write can be put back.
use mathlib.Core.Path.{◌≡◌, refl, ap, sym, ◌∙◌}
use mathlib.Core.Bool.{false}
use mathlib.Core.List.{List}
use Prim.Native.Nat.{ℕ, zero, suc, ◌+◌, ◌*◌, ◌/◌, ◌%◌, ◌<◌}
use native.Mathlib.Nat.{mod-mod, mod-lt, div-add-mod'}
use native.Mathlib.Omega.{arith}
use borrow.Author.Tests.{ne_eqb}
use lib.Dec.{eqb}
use lib.IntN.{ℤ}
use lib.ListN.{get_or, set}
use lib.Seq.{set-set, set-get_or}
use Rattle.picture.specs.declared.sprite.Sprite.{Sprite}
use Rattle.picture.specs.Sprites.{sprite_bytes, sprite_contents, sprite_kept, raw_of, coordinate, x_of, y_of, written, SpriteWidths}
use Rattle.picture.proofs.Laws.{raw_below, raw_back}

-- a coordinate with one of its bytes written, in bits; the modulus is some high values of 256 each
module _ (highs limit : ℕ) (z : ℤ) (b : ℕ) (some : 0 < highs) (byte : b < 256) where
  low_bits : raw_of (highs * 256) (coordinate (highs * 256) limit (raw_of (highs * 256) z / 256 * 256 + b))
      ≡ raw_of (highs * 256) z / 256 * 256 + b
  low_bits =
      raw_back (highs * 256) limit (raw_of (highs * 256) z / 256 * 256 + b)
      (omega (arith, raw_below (highs * 256) z (omega arith)))

  high_bits : b < highs →
      raw_of (highs * 256) (coordinate (highs * 256) limit (b * 256 + raw_of (highs * 256) z % 256))
      ≡ b * 256 + raw_of (highs * 256) z % 256
  high_bits h = raw_back (highs * 256) limit (b * 256 + raw_of (highs * 256) z % 256) (omega arith)

-- the two bytes of bits so made
pub low-low : (a b : ℕ) → b < 256 → (a / 256 * 256 + b) % 256 ≡ b
low-low a b h = omega arith

pub low-high : (a b : ℕ) → b < 256 → (a / 256 * 256 + b) / 256 ≡ a / 256
low-high a b h = omega arith

pub high-low : (a k : ℕ) → (k * 256 + a % 256) % 256 ≡ a % 256
high-low a k = omega arith

pub high-high : (a k : ℕ) → (k * 256 + a % 256) / 256 ≡ k
high-high a k = omega arith

far : (p k : ℕ) → k < 5 → eqb (suc (suc (suc (suc (suc p))))) k ≡ false
far p k h = ne_eqb (suc (suc (suc (suc (suc p))))) k (λ e. omega arith)

-- a write sets one byte
pub sprite-bytes : (s : Sprite) (p b : ℕ) → b < 256 → sprite_bytes (written s p b) ≡ set (sprite_bytes s) p (sprite_kept p b)
unfolding written
sprite-bytes s zero b h =
    rw (low_bits 4 768 s.x b (omega arith) h) (rw (low-low (raw_of 1024 s.x) b h, low-high (raw_of 1024 s.x) b h))
sprite-bytes s (suc zero) b h =
    rw (high_bits 4 768 s.x (b % 4) (omega arith) (omega arith) (omega arith)) (simp (high-low, high-high))
sprite-bytes s (suc (suc zero)) b h =
    rw (low_bits 2 256 s.y b (omega arith) h) (rw (low-low (raw_of 512 s.y) b h, low-high (raw_of 512 s.y) b h))
sprite-bytes s (suc (suc (suc zero))) b h =
    rw (high_bits 2 256 s.y (b % 2) (omega arith) (omega arith) (omega arith)) (simp (high-low, high-high))
sprite-bytes s (suc (suc (suc (suc zero)))) b h = simp mod-mod
sprite-bytes s (suc (suc (suc (suc (suc p))))) b h =
    simp (far p 0 (omega arith), far p 1 (omega arith), far p 2 (omega arith), far p 3 (omega arith), far p 4 (omega arith))

-- what is kept is kept again
pub sprite-kept : (p b : ℕ) → sprite_kept p (sprite_kept p b) ≡ sprite_kept p b
sprite-kept zero b = refl
sprite-kept (suc zero) b = mod-mod b 4
sprite-kept (suc (suc zero)) b = refl
sprite-kept (suc (suc (suc zero))) b = mod-mod b 2
sprite-kept (suc (suc (suc (suc p)))) b = mod-mod b 16

-- the sprite of these bytes
abbrev sprite_of : List ℕ → Sprite
sprite_of bytes =
    record {
      x = x_of (get_or bytes 1 0 * 256 + get_or bytes 0 0);
      y = y_of (get_or bytes 3 0 * 256 + get_or bytes 2 0);
      magnification = get_or bytes 4 0;
    }

-- a sprite within the widths is that of its bytes
of_bytes : (s : Sprite) → SpriteWidths s → sprite_of (sprite_bytes s) ≡ s
of_bytes s h =
    rw (div-add-mod' (raw_of 1024 s.x) 256, div-add-mod' (raw_of 512 s.y) 256, h.x_width, h.y_width, h.scales)

pub bytes_tell : (s t : Sprite) → SpriteWidths s → SpriteWidths t → sprite_bytes s ≡ sprite_bytes t → s ≡ t
bytes_tell s t h k e = sym (of_bytes s h) ∙ ap sprite_of e ∙ of_bytes t k

-- a write stays within them
settles : (highs limit raw : ℕ) → raw < highs * 256 →
    coordinate (highs * 256) limit (raw_of (highs * 256) (coordinate (highs * 256) limit raw)) ≡ coordinate (highs * 256) limit raw
settles highs limit raw h = rw (raw_back (highs * 256) limit raw h)

pub written-widths : (s : Sprite) (p b : ℕ) → b < 256 → SpriteWidths s → SpriteWidths (written s p b)
unfolding written
written-widths s zero b h w =
    record { x_width = settles 4 768 _ (omega (arith, raw_below 1024 s.x (omega arith))); y_width = w.y_width; scales = w.scales }
written-widths s (suc zero) b h w =
    record { x_width = settles 4 768 _ (omega arith); y_width = w.y_width; scales = w.scales }
written-widths s (suc (suc zero)) b h w =
    record { x_width = w.x_width; y_width = settles 2 256 _ (omega (arith, raw_below 512 s.y (omega arith))); scales = w.scales }
written-widths s (suc (suc (suc zero))) b h w =
    record { x_width = w.x_width; y_width = settles 2 256 _ (omega arith); scales = w.scales }
written-widths s (suc (suc (suc (suc zero)))) b h w = record { x_width = w.x_width; y_width = w.y_width; scales = mod-mod b 16 }
written-widths s (suc (suc (suc (suc (suc p))))) b h w =
    simp (far p 0 (omega arith), far p 1 (omega arith), far p 2 (omega arith), far p 3 (omega arith), far p 4 (omega arith)) w

-- a byte is kept whole
pub kept_whole : (s : Sprite) (p : ℕ) → sprite_kept p (get_or (sprite_bytes s) p 0) ≡ get_or (sprite_bytes s) p 0
kept_whole s zero = refl
kept_whole s (suc zero) = omega (arith, raw_below 1024 s.x (omega arith))
kept_whole s (suc (suc zero)) = refl
kept_whole s (suc (suc (suc zero))) = omega (arith, raw_below 512 s.y (omega arith))
kept_whole s (suc (suc (suc (suc zero)))) = mod-mod s.magnification 16
kept_whole s (suc (suc (suc (suc (suc p))))) = refl

pub contents-byte : (s : Sprite) (p : ℕ) → sprite_contents s p < 256
unfolding sprite_contents
contents-byte s zero = omega arith
contents-byte s (suc zero) = omega (arith, raw_below 1024 s.x (omega arith))
contents-byte s (suc (suc zero)) = omega arith
contents-byte s (suc (suc (suc zero))) = omega (arith, raw_below 512 s.y (omega arith))
contents-byte s (suc (suc (suc (suc zero)))) = omega (arith, mod-lt s.magnification {m = 16} (omega arith))
contents-byte s (suc (suc (suc (suc (suc p))))) = omega arith

-- a byte written, and what was there put back
pub sprite-back : (s : Sprite) (p b : ℕ) → b < 256 → SpriteWidths s → written (written s p b) p (sprite_contents s p) ≡ s
unfolding sprite_contents
sprite-back s p b h w =
    let v = get_or (sprite_bytes s) p 0 in
    let k = contents-byte s p in
    bytes_tell _ s (written-widths _ p _ k (written-widths s p b h w)) w
    (sprite-bytes (written s p b) p v k ∙ ap (λ l. set l p (sprite_kept p v)) (sprite-bytes s p b h)
    ∙ set-set (sprite_bytes s) p (sprite_kept p b) (sprite_kept p v)
    ∙ ap (set (sprite_bytes s) p) (kept_whole s p)
    ∙ set-get_or (sprite_bytes s) p 0)

-- past the five there is none
pub no_byte : (s : Sprite) (p : ℕ) → (p ≡ 0 → ⊥) → (p ≡ 1 → ⊥) → (p ≡ 2 → ⊥) → (p ≡ 3 → ⊥) → (p ≡ 4 → ⊥) → 0 ≡ sprite_contents s p
unfolding sprite_contents
no_byte s zero a b c d e = absurd (a refl)
no_byte s (suc zero) a b c d e = absurd (b refl)
no_byte s (suc (suc zero)) a b c d e = absurd (c refl)
no_byte s (suc (suc (suc zero))) a b c d e = absurd (d refl)
no_byte s (suc (suc (suc (suc zero)))) a b c d e = absurd (e refl)
no_byte s (suc (suc (suc (suc (suc p))))) a b c d e = refl
