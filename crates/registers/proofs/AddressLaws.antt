-- 01, "The register page": what stands from each bound on, and the one address of each register of a sound channel and of DCSR.
use mathlib.Core.Path.{◌≡◌, refl}
use mathlib.Core.Bool.{Bool, true, false}
use Prim.Native.Nat.{ℕ, ◌+◌, ◌-◌, ◌*◌, ◌%◌, ◌≤◌}
use native.Mathlib.Omega.{arith}
use borrow.Author.Tests.{ltb-false, eqb-true, le-ltb}
use lib.Dec.{eqb, leb, ltb}
use Rattle.common.specs.Choice.{if}
use Rattle.registers.specs.declared.address.ChannelRegister.{ChannelRegister}
use Rattle.registers.specs.declared.address.ChannelRegister.TheVariants.{StartLow, StartHigh, Prescale}
use Rattle.registers.specs.declared.address.Register.{Register}
use Rattle.registers.specs.declared.address.Register.TheVariants.{Pixel, Sprite, Palette, Video, Ivr, Converter, Channel, Dcsr, Status, Empty}
use Rattle.registers.specs.Address.{sprite_at, video_at, channel_at, register_at}

-- the page from 6000h on: what stands there, by the bounds that an address has passed
module _ (a : ℕ) where
  abbrev from_6c00 : Register
  from_6c00 = if (ltb a 0x6c10) (channel_at (a - 0x6c00)) Empty

  abbrev from6800 : Register
  from6800 = if (ltb a 0x6810) (video_at (a - 0x6800)) (if (ltb a 0x6c00) Empty from_6c00)

  abbrev from6400 : Register
  from6400 = if (ltb a 0x6440) (Palette (a - 0x6400)) (if (ltb a 0x6800) Empty from6800)

  abbrev from6000 : Register
  from6000 = if (ltb a 0x6080) (sprite_at (a - 0x6000)) (if (ltb a 0x6400) Empty from6400)

  pub past_6000 : 0x6000 ≤ a → register_at a ≡ from6000
  unfolding register_at
  past_6000 h = rw (le-ltb a 0x4000 (omega arith), le-ltb a 0x5000 (omega arith), le-ltb a 0x6000 h)

  pub past_6400 : 0x6400 ≤ a → register_at a ≡ from6400
  past_6400 h = rw (past_6000 (omega arith), le-ltb a 0x6080 (omega arith), le-ltb a 0x6400 h)

  pub past_6800 : 0x6800 ≤ a → register_at a ≡ from6800
  past_6800 h = rw (past_6400 (omega arith), le-ltb a 0x6440 (omega arith), le-ltb a 0x6800 h)

  pub past_6c00 : 0x6c00 ≤ a → register_at a ≡ from_6c00
  past_6c00 h = rw (past_6800 (omega arith), le-ltb a 0x6810 (omega arith), le-ltb a 0x6c00 h)

-- the place of a register among its channel's
abbrev pub place_of : ChannelRegister → ℕ
place_of StartLow = 0
place_of StartHigh = 1
place_of Prescale = 2

module _ (a : ℕ) where
  -- a register of a channel, or DCSR, stands here only if this is its address
  abbrev Stands : Register → Type 0
  Stands (Pixel i) = Unit {0}
  Stands (Sprite n p) = Unit {0}
  Stands (Palette i) = Unit {0}
  Stands (Video v) = Unit {0}
  Stands Ivr = Unit {0}
  Stands Converter = Unit {0}
  Stands (Channel n r) = a ≡ 0x6c00 + n * 4 + place_of r
  Stands Dcsr = a ≡ 0x6c0f
  Stands Status = Unit {0}
  Stands Empty = Unit {0}

  -- what holds of both arms holds of the choice
  by-test : (b : Bool) (x y : Register) → (b ≡ true → Stands x) → (b ≡ false → Stands y) → Stands (if b x y)
  by-test true x y f g = f refl
  by-test false x y f g = g refl

  either_way : (b : Bool) (x y : Register) → Stands x → Stands y → Stands (if b x y)
  either_way b x y f g = by-test b x y (λ e. f) (λ e. g)

  sprite-stands : (o : ℕ) → Stands (sprite_at o)
  unfolding sprite_at
  sprite-stands o = tt

  video-stands : (o : ℕ) → Stands (video_at o)
  unfolding video_at
  video-stands o =
      either_way (eqb o 0) _ _ tt
      (either_way (eqb o 1) _ _ tt
      (either_way (eqb o 2) _ _ tt
      (either_way (eqb o 3) _ _ tt
      (either_way (eqb o 4) _ _ tt
      (either_way (eqb o 5) _ _ tt (either_way (eqb o 6) _ _ tt (either_way (eqb o 7) _ _ tt tt)))))))

  channel-stands : (o : ℕ) → a ≡ 0x6c00 + o → Stands (channel_at o)
  unfolding channel_at
  channel-stands o h =
      by-test (eqb o 15) _ _ (λ e. omega (arith, eqb-true o 15 e))
      (λ e.
      either_way (leb 12 o) _ _ tt
      (by-test (eqb (o % 4) 0) _ _ (λ e. omega (arith, eqb-true (o % 4) 0 e))
      (λ e.
      by-test (eqb (o % 4) 1) _ _ (λ e. omega (arith, eqb-true (o % 4) 1 e))
      (λ e. by-test (eqb (o % 4) 2) _ _ (λ e. omega (arith, eqb-true (o % 4) 2 e)) (λ e. tt)))))

  stands : Stands (register_at a)
  unfolding register_at
  stands =
      either_way (ltb a 0x4000) _ _ tt
      (either_way (ltb a 0x5000) _ _ tt
      (either_way (ltb a 0x6000) _ _ tt
      (either_way (ltb a 0x6080) _ _ (sprite-stands (a - 0x6000))
      (either_way (ltb a 0x6400) _ _ tt
      (either_way (ltb a 0x6440) _ _ tt
      (either_way (ltb a 0x6800) _ _ tt
      (either_way (ltb a 0x6810) _ _ (video-stands (a - 0x6800))
      (by-test (ltb a 0x6c00) _ _ (λ e. tt)
      (λ e.
      either_way (ltb a 0x6c10) _ _ (channel-stands (a - 0x6c00) (omega (arith, ltb-false a 0x6c00 e))) tt)))))))))

-- the address of a channel's register
pub channel-address : (a n : ℕ) (r : ChannelRegister) → register_at a ≡ Channel n r → a ≡ 0x6c00 + n * 4 + place_of r
channel-address a n r e = rw e at (stands a)

-- the address of DCSR
pub dcsr-address : (a : ℕ) → register_at a ≡ Dcsr → a ≡ 0x6c0f
dcsr-address a e = rw e at (stands a)
