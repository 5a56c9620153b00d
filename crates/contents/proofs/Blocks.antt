-- All registers' bytes as one list of blocks of units of bytes, so that a write sets one byte of it, whatever its register. This form
-- serves only the proofs: "for every two registers" then comes from the laws of one list.
use mathlib.Core.Path.{◌≡◌, refl, ap, sym, ◌∙◌}
use mathlib.Core.Bool.{Bool, true, false}
use mathlib.Core.List.{List, [], ◌∷◌, map}
use Prim.Native.Nat.{ℕ, zero, suc, ◌*◌, ◌/◌, ◌%◌, ◌<◌}
use native.Mathlib.Omega.{arith}
use lib.ListN.{length, get_or, set}
use lib.Seq.{get_or-set_other}
use Rattle.common.proofs.Lists.{after-set}
use Rattle.common.specs.Choice.{if}
use Rattle.editors.specs.declared.Editor.{Editor}
use Rattle.editors.specs.declared.Table.{Table}
use Rattle.sound.specs.declared.Channel.{Channel}
use Rattle.sound.specs.Line.{channel_of, off_channel}
use Rattle.crtc.specs.declared.Video.{Video}
use Rattle.picture.specs.Palette.{kept_byte_of}
use Rattle.picture.specs.Sprites.{off_sprite, sprite_bytes, sprite_contents, sprite_kept, written}
use Rattle.picture.proofs.SpriteBytes.{low-low, low-high, high-low, high-high, sprite-bytes, kept_whole}
use Rattle.chip.specs.declared.Chip.{Chip}
use Rattle.registers.specs.declared.address.VideoRegister.{VideoRegister}
use Rattle.registers.specs.declared.address.VideoRegister.TheVariants.{Pri, SplitLine, SplitHigh, SplitLow, Sscr}
use Rattle.registers.specs.declared.address.ChannelRegister.{ChannelRegister}
use Rattle.registers.specs.declared.address.ChannelRegister.TheVariants.{StartLow, StartHigh, Prescale}
use Rattle.registers.specs.declared.address.Register.{Register}
use Rattle.registers.specs.declared.address.Register.TheVariants.{Pixel, Sprite as SpriteAt, Palette, Video as VideoAt, Ivr, Converter, Channel as ChannelAt, Dcsr, Status, Empty}
use Rattle.registers.specs.Owners.{owns_channel}
use Rattle.registers.specs.Registers.{channel_written, video_written, control_written, dcsr_written, register_written, store_put}
use Rattle.contents.specs.Contents.{video_kept, channel_kept, contents}
use Rattle.contents.proofs.Off.{off-sprite}

-- the bytes of PRI, the split's registers and SSCR; of a channel
abbrev pub video_bytes : Video → List ℕ
video_bytes v = v.pri ∷ v.split_line ∷ v.split_high ∷ v.split_low ∷ v.sscr ∷ []

abbrev pub channel_bytes : Channel → List ℕ
channel_bytes d = d.address % 256 ∷ d.address / 256 ∷ d.prescale ∷ []

-- all of them
abbrev pub bytes_of : Chip → List ℕ → List (List (List ℕ))
bytes_of c store =
    (store ∷ []) ∷ (c.palette ∷ []) ∷ (video_bytes c.video ∷ []) ∷ ((c.interrupts.ivr ∷ []) ∷ [])
    ∷ map channel_bytes c.sound.channels ∷ map sprite_bytes c.sprites ∷ []

-- where a register's byte stands: block, unit, byte. The last four have none
pub record Place : Type 0 where
  pub block : ℕ
  pub unit : ℕ
  pub byte : ℕ

abbrev pub video_place : VideoRegister → ℕ
video_place Pri = 0
video_place SplitLine = 1
video_place SplitHigh = 2
video_place SplitLow = 3
video_place Sscr = 4

abbrev pub channel_place : ChannelRegister → ℕ
channel_place StartLow = 0
channel_place StartHigh = 1
channel_place Prescale = 2

abbrev pub place_of : Register → Place
place_of (Pixel i) = record { block = 0; unit = 0; byte = i }
place_of (Palette i) = record { block = 1; unit = 0; byte = i }
place_of (VideoAt v) = record { block = 2; unit = 0; byte = video_place v }
place_of Ivr = record { block = 3; unit = 0; byte = 0 }
place_of (ChannelAt n r) = record { block = 4; unit = n; byte = channel_place r }
place_of (SpriteAt n p) = record { block = 5; unit = n; byte = p }
place_of Converter = record { block = 6; unit = 0; byte = 0 }
place_of Dcsr = record { block = 7; unit = 0; byte = 0 }
place_of Status = record { block = 8; unit = 0; byte = 0 }
place_of Empty = record { block = 9; unit = 0; byte = 0 }

abbrev pub byte_at : List (List (List ℕ)) → Place → ℕ
byte_at bytes p = get_or (get_or (get_or bytes p.block []) p.unit []) p.byte 0

-- a byte as it is put into the chip or, of a pixel, another into the store
abbrev pub byte_put : Register → ℕ → ℕ → ℕ
byte_put (Pixel i) b v = v
byte_put (Palette i) b v = kept_byte_of i b
byte_put (VideoAt r) b v = video_kept r b
byte_put Ivr b v = b
byte_put (ChannelAt n r) b v = channel_kept r b
byte_put (SpriteAt n p) b v = sprite_kept p b
byte_put Converter b v = 0
byte_put Dcsr b v = 0
byte_put Status b v = 0
byte_put Empty b v = 0

-- contents are the bits kept of the byte there
abbrev pub bits_of : Register → ℕ → ℕ
bits_of x b = byte_put x b b

-- a byte of a unit; past the last unit it is 0
unit-byte :
    {A : Type 0} (f : A → List ℕ) (d : A) → ((k : ℕ) → 0 ≡ get_or (f d) k 0) → (l : List A) (n k : ℕ) →
    get_or (get_or (map f l) n []) k 0 ≡ get_or (f (get_or l n d)) k 0
unit-byte f d z [] n k = z k
unit-byte f d z (a ∷ l) zero k = refl
unit-byte f d z (a ∷ l) (suc n) k = unit-byte f d z l n k

off-bytes : (k : ℕ) → 0 ≡ get_or (channel_bytes off_channel) k 0
off-bytes zero = refl
off-bytes (suc zero) = refl
off-bytes (suc (suc zero)) = refl
off-bytes (suc (suc (suc k))) = refl

no_sprite : (k : ℕ) → 0 ≡ get_or (sprite_bytes off_sprite) k 0
unfolding sprite_contents
no_sprite k = off-sprite k

module _ (c : Chip) (store : List ℕ) (n : ℕ) where
  there :
      (k : ℕ) →
      get_or (get_or (map channel_bytes c.sound.channels) n []) k 0 ≡ get_or (channel_bytes (channel_of c.sound.channels n)) k 0
  there k = unit-byte channel_bytes off_channel off-bytes c.sound.channels n k

  of_channel_lem :
      (r : ChannelRegister) →
      contents c store (ChannelAt n r) ≡ bits_of (ChannelAt n r) (byte_at (bytes_of c store) (place_of (ChannelAt n r)))
  of_channel_lem StartLow = ap (channel_kept StartLow) (sym (there 0))
  of_channel_lem StartHigh = sym (there 1)
  of_channel_lem Prescale = sym (there 2)

pub contents-byte : (c : Chip) (store : List ℕ) (x : Register) → contents c store x ≡ bits_of x (byte_at (bytes_of c store) (place_of x))
unfolding sprite_contents
contents-byte c store (Pixel i) = refl
contents-byte c store (SpriteAt n p) =
    sym (kept_whole (get_or c.sprites n off_sprite) p)
    ∙ ap (sprite_kept p) (sym (unit-byte sprite_bytes off_sprite no_sprite c.sprites n p))
contents-byte c store (Palette i) = refl
contents-byte c store (VideoAt v) =
    elim v as (λ k. contents c store (VideoAt k) ≡ bits_of (VideoAt k) (byte_at (bytes_of c store) (place_of (VideoAt k)))) [ Pri ↦ refl | SplitLine ↦ refl | SplitHigh ↦ refl | SplitLow ↦ refl | Sscr ↦ refl ]
contents-byte c store Ivr = refl
contents-byte c store Converter = refl
contents-byte c store (ChannelAt n r) = of_channel_lem c store n r
contents-byte c store Dcsr = refl
contents-byte c store Status = refl
contents-byte c store Empty = refl

-- one byte set, and then read at another place or at this one
abbrev pub set_at : List (List (List ℕ)) → Place → ℕ → List (List (List ℕ))
set_at bytes p b =
    set bytes p.block
    (set (get_or bytes p.block []) p.unit (set (get_or (get_or bytes p.block []) p.unit []) p.byte b))

module _ (bytes : List (List (List ℕ))) (p : Place) (b : ℕ) where
  pub at_other : (q : Place) → (q.block ≡ p.block → q.unit ≡ p.unit → q.byte ≡ p.byte → ⊥) →
      byte_at (set_at bytes p b) q ≡ byte_at bytes q
  at_other q h =
      after-set (λ l. get_or (get_or l q.unit []) q.byte 0 ≡ byte_at bytes q) bytes p.block q.block _ [] refl
      (λ e. after-set (λ l. get_or l q.byte 0 ≡ byte_at bytes q) (get_or bytes p.block []) p.unit q.unit _ []
      (rw e)
      (λ f. rw (get_or-set_other (get_or (get_or bytes p.block []) p.unit []) p.byte q.byte b 0 (h e f)) (rw (e, f))))

-- of the bytes of several units, one byte of one unit set
one_set : {A : Type 0} (f : A → List ℕ) (l : List A) (n p v : ℕ) (y d : A) → f y ≡ set (f (get_or l n d)) p v →
    map f (set l n y) ≡ set (map f l) n (set (get_or (map f l) n []) p v)
one_set f [] n p v y d h = refl
one_set f (a ∷ l) zero p v y d h = ap (λ x. x ∷ map f l) h
one_set f (a ∷ l) (suc n) p v y d h = ap (λ x. f a ∷ x) (one_set f l n p v y d h)

channel-bytes : (d : Channel) (r : ChannelRegister) (b : ℕ) → b < 256 →
    channel_bytes (channel_written d r b) ≡ set (channel_bytes d) (channel_place r) (channel_kept r b)
channel-bytes d StartLow b h = rw (low-low d.address (b / 2 * 2) (omega arith), low-high d.address (b / 2 * 2) (omega arith))
channel-bytes d StartHigh b h = rw (high-low d.address b, high-high d.address b)
channel-bytes d Prescale b h = refl

video-bytes : (v : Video) (r : VideoRegister) (b : ℕ) →
    video_bytes (video_written v r b) ≡ set (video_bytes v) (video_place r) (video_kept r b)
video-bytes v Pri b = refl
video-bytes v SplitLine b = refl
video-bytes v SplitHigh b = refl
video-bytes v SplitLow b = refl
video-bytes v Sscr b = refl

-- DCSR has no contents, and no byte of a channel is its
controlled-bytes : (own : Bool) (b n : ℕ) (d : Channel) → channel_bytes (if own (control_written b n d) d) ≡ channel_bytes d
controlled-bytes true b n d = refl
controlled-bytes false b n d = refl

control-bytes : (t : Table) (ed : Editor) (cs : List Channel) (b : ℕ) → length cs ≡ 3 →
    map channel_bytes (dcsr_written t ed cs b) ≡ map channel_bytes cs
control-bytes t ed [] b h = absurd (omega arith)
control-bytes t ed (x ∷ []) b h = absurd (omega arith)
control-bytes t ed (x ∷ y ∷ []) b h = absurd (omega arith)
control-bytes t ed (x ∷ y ∷ z ∷ []) b h =
    rw (controlled-bytes (owns_channel t ed 0) b 0 x, controlled-bytes (owns_channel t ed 1) b 1 y, controlled-bytes (owns_channel t ed 2) b 2 z)
control-bytes t ed (x ∷ y ∷ z ∷ w ∷ cs) b h = absurd (omega arith)

-- a byte put into the chip and one into the store set one byte of them all
pub bytes-put : (c : Chip) (ed : Editor) (store : List ℕ) (x : Register) (b v : ℕ) → b < 256 → length c.sound.channels ≡ 3 →
    bytes_of (register_written c ed x b) (store_put store x v) ≡ set_at (bytes_of c store) (place_of x) (byte_put x b v)
bytes-put c ed store (Pixel i) b v h k = refl
bytes-put c ed store (Palette i) b v h k = refl
bytes-put c ed store (VideoAt r) b v h k = rw (video-bytes c.video r b)
bytes-put c ed store Ivr b v h k = refl
bytes-put c ed store (ChannelAt n r) b v h k =
    rw (one_set channel_bytes c.sound.channels n (channel_place r) (channel_kept r b)
    (channel_written (channel_of c.sound.channels n) r b) off_channel (channel-bytes (channel_of c.sound.channels n) r b h))
bytes-put c ed store (SpriteAt n p) b v h k =
    rw (one_set sprite_bytes c.sprites n p (sprite_kept p b) (written (get_or c.sprites n off_sprite) p b) off_sprite
    (sprite-bytes (get_or c.sprites n off_sprite) p b h))
bytes-put c ed store Converter b v h k = refl
bytes-put c ed store Dcsr b v h k = rw (control-bytes c.editing.table ed c.sound.channels b k)
bytes-put c ed store Status b v h k = refl
bytes-put c ed store Empty b v h k = refl

-- the register of a place
video_of : ℕ → VideoRegister
video_of zero = Pri
video_of (suc zero) = SplitLine
video_of (suc (suc zero)) = SplitHigh
video_of (suc (suc (suc zero))) = SplitLow
video_of (suc (suc (suc (suc i)))) = Sscr

channel_reg : ℕ → ChannelRegister
channel_reg zero = StartLow
channel_reg (suc zero) = StartHigh
channel_reg (suc (suc i)) = Prescale

at : ℕ → ℕ → ℕ → Register
at zero n i = Pixel i
at (suc zero) n i = Palette i
at (suc (suc zero)) n i = VideoAt (video_of i)
at (suc (suc (suc zero))) n i = Ivr
at (suc (suc (suc (suc zero)))) n i = ChannelAt n (channel_reg i)
at (suc (suc (suc (suc (suc zero))))) n i = SpriteAt n i
at (suc (suc (suc (suc (suc (suc zero)))))) n i = Converter
at (suc (suc (suc (suc (suc (suc (suc zero))))))) n i = Dcsr
at (suc (suc (suc (suc (suc (suc (suc (suc zero)))))))) n i = Status
at (suc (suc (suc (suc (suc (suc (suc (suc (suc k))))))))) n i = Empty

at_place : (x : Register) → at (place_of x).block (place_of x).unit (place_of x).byte ≡ x
unfolding at video_of channel_reg
at_place (Pixel i) = refl
at_place (Palette i) = refl
at_place (VideoAt v) = ap VideoAt (elim v as (λ k. video_of (video_place k) ≡ k) [ Pri ↦ refl | SplitLine ↦ refl | SplitHigh ↦ refl | SplitLow ↦ refl | Sscr ↦ refl ])
at_place Ivr = refl
at_place (ChannelAt n r) = ap (ChannelAt n) (elim r as (λ k. channel_reg (channel_place k) ≡ k) [ StartLow ↦ refl | StartHigh ↦ refl | Prescale ↦ refl ])
at_place (SpriteAt n p) = refl
at_place Converter = refl
at_place Dcsr = refl
at_place Status = refl
at_place Empty = refl

pub same_register : (x y : Register) → (place_of y).block ≡ (place_of x).block → (place_of y).unit ≡ (place_of x).unit →
    (place_of y).byte ≡ (place_of x).byte → y ≡ x
same_register x y e f g = sym (at_place y) ∙ rw (e, f, g) (at_place x)
