-- 01, "The register page": a sprite's registers. The coordinates are signed.
use Rattle.std.specs.Prelude.{◌≡◌, List, [], ◌∷◌, ℕ, zero, suc, ◌+◌, ◌-◌, ◌*◌, ◌/◌, ◌%◌, eqb, leb, ℤ, pos, negsuc, get_or}
use Rattle.common.specs.Choice.{if}
use Rattle.picture.specs.declared.sprite.Sprite.{Sprite}

-- a sprite that is off, at 0, 0
abbrev pub off_sprite : Sprite
off_sprite = record { x = pos 0; y = pos 0; magnification = 0 }

-- the bits of a signed number, in two's complement with this modulus; negsuc n is -(n + 1)
abbrev pub raw_of : ℕ → ℤ → ℕ
raw_of m (pos n) = n % m
raw_of m (negsuc n) = m - 1 - n % m

-- the signed number with these bits: from the limit on it is negative
unfoldable pub coordinate : ℕ → ℕ → ℕ → ℤ
coordinate m limit raw = if (leb limit raw) (negsuc (m - 1 - raw)) (pos raw)

-- X has 10 bits, and 768 to 1023 mean -256 to -1; Y is 9 bits of two's complement
abbrev pub x_of : ℕ → ℤ
x_of raw = coordinate 1024 768 raw

abbrev pub y_of : ℕ → ℤ
y_of raw = coordinate 512 256 raw

-- +0 X low, +1 X high (2 bits), +2 Y low, +3 Y high (1 bit), +4 magnification (4 bits); nothing else is written
unfoldable pub written : Sprite → ℕ → ℕ → Sprite
written s place b =
    record {
      x =
          if (eqb place 0) (x_of (raw_of 1024 s.x / 256 * 256 + b))
          (if (eqb place 1) (x_of (b % 4 * 256 + raw_of 1024 s.x % 256)) s.x);
      y =
          if (eqb place 2) (y_of (raw_of 512 s.y / 256 * 256 + b))
          (if (eqb place 3) (y_of (b % 2 * 256 + raw_of 512 s.y % 256)) s.y);
      magnification = if (eqb place 4) (b % 16) s.magnification;
    }

-- a low byte of the bits
abbrev pub low_shown : ℕ → ℤ → ℕ
low_shown m z = raw_of m z % 256

-- a high byte shows the upper bits, or FFh of a negative coordinate
abbrev pub high_shown : ℕ → ℤ → ℕ
high_shown m (pos n) = raw_of m (pos n) / 256
high_shown m (negsuc n) = 255

-- what +0 to +3 read as
unfoldable pub shown : Sprite → ℕ → ℕ
shown s place =
    if (eqb place 0) (low_shown 1024 s.x)
    (if (eqb place 1) (high_shown 1024 s.x)
    (if (eqb place 2) (low_shown 512 s.y) (if (eqb place 3) (high_shown 512 s.y) 0)))

-- 02, L5: the contents of the five registers in the order of their places: X and Y as their 10 and 9 bits, magnification's 4
abbrev pub sprite_bytes : Sprite → List ℕ
sprite_bytes s =
    raw_of 1024 s.x % 256 ∷ raw_of 1024 s.x / 256 ∷ raw_of 512 s.y % 256 ∷ raw_of 512 s.y / 256 ∷
    s.magnification % 16 ∷ []

unfoldable pub sprite_contents : Sprite → ℕ → ℕ
sprite_contents s place = get_or (sprite_bytes s) place 0

-- what a write at a place keeps of its byte
abbrev pub sprite_kept : ℕ → ℕ → ℕ
sprite_kept zero b = b
sprite_kept (suc zero) b = b % 4
sprite_kept (suc (suc zero)) b = b
sprite_kept (suc (suc (suc zero))) b = b % 2
sprite_kept (suc (suc (suc (suc place)))) b = b % 16

-- a sprite within the widths: its coordinates are those that their bits mean, and magnification has 4 bits
pub record SpriteWidths (s : Sprite) : Type 0 where
  pub x_width : x_of (raw_of 1024 s.x) ≡ s.x
  pub y_width : y_of (raw_of 512 s.y) ≡ s.y
  pub scales : s.magnification % 16 ≡ s.magnification
