-- 02, L5: a write sets the contents of its register to the bits kept, and no other register's contents differ.
use mathlib.Core.Path.{◌≡◌, refl, ap, sym, ◌∙◌}
use mathlib.Core.Bool.{Bool, true, false}
use mathlib.Core.List.{List, [], ◌∷◌, map}
use Prim.Native.Nat.{ℕ, zero, suc, ◌%◌, ◌<◌}
use native.Mathlib.Nat.{mod-mod}
use native.Mathlib.Omega.{arith}
use lib.Dec.{eqb}
use lib.ListN.{length, get_or, set}
use lib.Seq.{get_or-set_same}
use Rattle.common.specs.Choice.{if}
use Rattle.picture.specs.Palette.{kept_byte_of}
use Rattle.picture.specs.Sprites.{sprite_bytes}
use Rattle.picture.proofs.SpriteBytes.{sprite-kept}
use Rattle.editors.specs.declared.Editor.{Editor}
use Rattle.chip.specs.declared.Chip.{Chip}
use Rattle.registers.specs.declared.address.VideoRegister.TheVariants.{Pri, SplitLine, SplitHigh, SplitLow, Sscr}
use Rattle.registers.specs.declared.address.ChannelRegister.{ChannelRegister}
use Rattle.registers.specs.declared.address.ChannelRegister.TheVariants.{StartLow, StartHigh, Prescale}
use Rattle.registers.specs.declared.address.Register.{Register}
use Rattle.registers.specs.declared.address.Register.TheVariants.{Pixel, Sprite as SpriteAt, Palette, Video as VideoAt, Ivr, Converter, Channel as ChannelAt, Dcsr, Status, Empty}
use Rattle.registers.specs.Registers.{register_written, store_put, store_written}
use Rattle.contents.specs.Contents.{contents, Holds, bits_kept}
use Rattle.contents.specs.Widths.{Widths}
use Rattle.contents.proofs.Blocks.{channel_bytes, channel_place, bytes_of, place_of, byte_at, byte_put, bits_of, contents-byte, set_at, at_other, bytes-put, same_register}

pub kept-twice : (i b : ℕ) → kept_byte_of i (kept_byte_of i b) ≡ kept_byte_of i b
unfolding kept_byte_of
kept-twice i b = go (eqb (i % 2) 0)
  where
    go : (t : Bool) → if t (if t b (b % 16)) (if t b (b % 16) % 16) ≡ if t b (b % 16)
    go true = refl
    go false = mod-mod b 16

-- what is put there is kept
kept_again : (x : Register) (b v : ℕ) → bits_of x (byte_put x b v) ≡ byte_put x b v
kept_again (Pixel i) b v = refl
kept_again (Palette i) b v = kept-twice i b
kept_again (VideoAt r) b v =
    elim r as (λ k. bits_of (VideoAt k) (byte_put (VideoAt k) b v) ≡ byte_put (VideoAt k) b v)
    [ Pri ↦ refl | SplitLine ↦ refl | SplitHigh ↦ mod-mod b 64 | SplitLow ↦ refl | Sscr ↦ refl ]
kept_again Ivr b v = refl
kept_again (ChannelAt n r) b v =
    elim r as (λ k. bits_of (ChannelAt n k) (byte_put (ChannelAt n k) b v) ≡ byte_put (ChannelAt n k) b v) [ StartLow ↦ omega arith | StartHigh ↦ refl | Prescale ↦ refl ]
kept_again (SpriteAt n p) b v = sprite-kept p b
kept_again Converter b v = refl
kept_again Dcsr b v = refl
kept_again Status b v = refl
kept_again Empty b v = refl

-- a byte of a unit set, and read there
unit-set :
    {A : Type 0} (f : A → List ℕ) (l : List A) (n k b : ℕ) → n < length l → ((a : A) → k < length (f a)) →
    get_or (get_or (set (map f l) n (set (get_or (map f l) n []) k b)) n []) k 0 ≡ b
unit-set f [] n k b h g = absurd (omega arith)
unit-set f (a ∷ l) zero k b h g = get_or-set_same (f a) k b 0 (g a)
unit-set f (a ∷ l) (suc n) k b h g = unit-set f l n k b (omega arith) g

channel-place : (r : ChannelRegister) → channel_place r < 3
channel-place StartLow = omega arith
channel-place StartHigh = omega arith
channel-place Prescale = omega arith

module _ (c : Chip) (store : List ℕ) (w : Widths c) (pixels : length store ≡ 4096) (b : ℕ) where
  place_set : (x : Register) → Holds x → byte_at (set_at (bytes_of c store) (place_of x) b) (place_of x) ≡ b
  place_set (Pixel i) h = get_or-set_same store i b 0 (omega arith)
  place_set (Palette i) h = get_or-set_same c.palette i b 0 (omega (arith, w.entries))
  place_set (VideoAt v) h =
      elim v as (λ k. byte_at (set_at (bytes_of c store) (place_of (VideoAt k)) b) (place_of (VideoAt k)) ≡ b) [ Pri ↦ refl | SplitLine ↦ refl | SplitHigh ↦ refl | SplitLow ↦ refl | Sscr ↦ refl ]
  place_set Ivr h = refl
  place_set (ChannelAt n r) h =
      unit-set channel_bytes c.sound.channels n (channel_place r) b (omega (arith, w.three)) (λ a. channel-place r)
  place_set (SpriteAt n p) h = unit-set sprite_bytes c.sprites n p b (omega (arith, w.sixteen)) (λ a. h.1)
  place_set Converter h = absurd h
  place_set Dcsr h = absurd h
  place_set Status h = absurd h
  place_set Empty h = absurd h

-- a byte put into the chip or, of a pixel, another into the store
module _ (c : Chip) (ed : Editor) (store : List ℕ) (w : Widths c) (x : Register) (b v : ℕ) (h : b < 256) where
  -- no other register's contents differ
  pub other-stays :
      (y : Register) → (y ≡ x → ⊥) → contents (register_written c ed x b) (store_put store x v) y ≡ contents c store y
  other-stays y apart =
      contents-byte (register_written c ed x b) (store_put store x v) y
      ∙ ap (bits_of y)
      (rw (bytes-put c ed store x b v h w.three)
      (at_other (bytes_of c store) (place_of x) (byte_put x b v) (place_of y) (λ e f g. apart (same_register x y e f g))))
      ∙ sym (contents-byte c store y)

  -- and its own are these bits
  pub own-set :
      length store ≡ 4096 → Holds x → contents (register_written c ed x b) (store_put store x v) x ≡ byte_put x b v
  own-set pixels holds =
      contents-byte (register_written c ed x b) (store_put store x v) x
      ∙ rw (bytes-put c ed store x b v h w.three, place_set c store w pixels (byte_put x b v) x holds) (kept_again x b v)

-- what a write puts are the bits kept
kept_put : (x : Register) (b : ℕ) → byte_put x b (b % 16) ≡ bits_kept x b
kept_put (Pixel i) b = refl
kept_put (SpriteAt n p) b = refl
kept_put (Palette i) b = refl
kept_put (VideoAt v) b = refl
kept_put Ivr b = refl
kept_put (ChannelAt n r) b = refl
kept_put Converter b = refl
kept_put Dcsr b = refl
kept_put Status b = refl
kept_put Empty b = refl

-- a write: its own contents
pub written-contents :
    (c : Chip) (ed : Editor) (store : List ℕ) (x : Register) (b : ℕ) → Widths c → length store ≡ 4096 → b < 256 → Holds x →
    contents (register_written c ed x b) (store_written store x b) x ≡ bits_kept x b
written-contents c ed store x b w pixels h holds = own-set c ed store w x b (b % 16) h pixels holds ∙ kept_put x b

-- a write: those of any other register
pub written-others :
    (c : Chip) (ed : Editor) (store : List ℕ) (x : Register) (b : ℕ) → Widths c → b < 256 → (y : Register) → (y ≡ x → ⊥) →
    contents (register_written c ed x b) (store_written store x b) y ≡ contents c store y
written-others c ed store x b w h y apart = other-stays c ed store w x b (b % 16) h y apart

-- contents put back are the contents
pub put-contents :
    (c d : Chip) (ed : Editor) (store before : List ℕ) (x : Register) → Widths c → length store ≡ 4096 → contents d before x < 256 → Holds x →
    contents (register_written c ed x (contents d before x)) (store_put store x (contents d before x)) x ≡ contents d before x
put-contents c d ed store before x w pixels h holds =
    own-set c ed store w x _ _ h pixels holds
    ∙ rw (contents-byte d before x) (kept_again x (byte_at (bytes_of d before) (place_of x)) (byte_at (bytes_of d before) (place_of x)))
