-- 02, L5: of a chip within the widths a page read shows what the register's contents, DCSR and the bus byte say.
use mathlib.Core.Path.{◌≡◌, refl}
use mathlib.Core.Bool.{Bool, true, false}
use mathlib.Core.List.{List}
use Prim.Native.Nat.{ℕ, zero, suc, ◌-◌, ◌*◌, ◌/◌, ◌%◌, ◌<◌, ◌≤◌}
use native.Mathlib.Omega.{arith}
use borrow.Author.Tests.{le-leb, lt-leb, le-ltb, leb-true, leb-false}
use lib.Dec.{leb, ltb}
use lib.IntN.{ℤ, pos, negsuc}
use lib.ListN.{get_or}
use Rattle.common.specs.Choice.{if}
use Rattle.picture.specs.declared.sprite.Sprite.{Sprite}
use Rattle.picture.specs.Sprites.{off_sprite, raw_of, coordinate, high_shown, shown, sprite_contents, SpriteWidths}
use Rattle.editors.specs.declared.Editor.{Editor}
use Rattle.chip.specs.declared.Chip.{Chip}
use Rattle.registers.specs.declared.address.Register.{Register}
use Rattle.registers.specs.declared.address.Register.TheVariants.{Pixel, Sprite as SpriteAt, Palette, Video as VideoAt, Ivr, Converter, Channel as ChannelAt, Dcsr, Status, Empty}
use Rattle.registers.specs.Registers.{dcsr, register_read}
use Rattle.contents.specs.Contents.{contents}
use Rattle.contents.specs.Shown.{high_by, sprite_by, shown_by, shows_dcsr}
use Rattle.contents.specs.Widths.{Widths}

-- the upper bits of a coordinate within its width tell its sign
high_read :
    (m limit : ℕ) (z : ℤ) → coordinate m (256 * limit) (raw_of m z) ≡ z → high_shown m z ≡ high_by limit (raw_of m z / 256)
unfolding coordinate
high_read m limit (pos n) e = go (leb (256 * limit) (n % m)) refl
  where
    go : (t : Bool) → leb (256 * limit) (n % m) ≡ t → n % m / 256 ≡ high_by limit (n % m / 256)
    go true h =
        let k : negsuc (m - 1 - n % m) ≡ pos n = rw h at e in
        absurd (let z : ◌≡◌ {A = ℕ} 0 1 = cc in omega arith)
    go false h =
        let l : n % m < 256 * limit = leb-false _ _ h in
        rw (lt-leb limit (n % m / 256) (omega arith))
high_read m limit (negsuc n) e = go (leb (256 * limit) (m - 1 - n % m)) refl
  where
    go : (t : Bool) → leb (256 * limit) (m - 1 - n % m) ≡ t → 255 ≡ high_by limit ((m - 1 - n % m) / 256)
    go true h =
        let l : 256 * limit ≤ m - 1 - n % m = leb-true _ _ h in
        rw (le-leb limit ((m - 1 - n % m) / 256) (omega arith))
    go false h =
        let k : pos (m - 1 - n % m) ≡ negsuc n = rw h at e in
        absurd (let z : ◌≡◌ {A = ℕ} 0 1 = cc in omega arith)

sprite-shows :
    (s : Sprite) (p bus : ℕ) → SpriteWidths s → if (ltb p 4) (shown s p) bus ≡ if (ltb p 4) (sprite_by p (sprite_contents s p)) bus
unfolding shown sprite_contents
sprite-shows s zero bus w = refl
sprite-shows s (suc zero) bus w = high_read 1024 3 s.x w.x_width
sprite-shows s (suc (suc zero)) bus w = refl
sprite-shows s (suc (suc (suc zero))) bus w = high_read 512 1 s.y w.y_width
sprite-shows s (suc (suc (suc (suc p)))) bus w = simp (le-ltb (suc (suc (suc (suc p)))) 4 (omega arith))

pub read-shows :
    (c : Chip) (ed : Editor) (store : List ℕ) (x : Register) (bus : ℕ) → Widths c →
    register_read c ed store x bus ≡ shown_by x (contents c store x) (dcsr c ed) bus
read-shows c ed store (Pixel i) bus w = refl
read-shows c ed store (SpriteAt n p) bus w = sprite-shows (get_or c.sprites n off_sprite) p bus (w.sprite n)
read-shows c ed store (Palette i) bus w = refl
read-shows c ed store (VideoAt r) bus w = refl
read-shows c ed store Ivr bus w = refl
read-shows c ed store Converter bus w = refl
read-shows c ed store (ChannelAt n r) bus w = refl
read-shows c ed store Dcsr bus w = refl
read-shows c ed store Status bus w = refl
read-shows c ed store Empty bus w = refl

-- what shows DCSR doesn't show its contents, and the rest not DCSR
dcsr-shown : (x : Register) (u v d bus : ℕ) → shows_dcsr x ≡ true → shown_by x u d bus ≡ shown_by x v d bus
dcsr-shown (Pixel i) u v d bus h = absurd (let z : ◌≡◌ {A = ℕ} 0 1 = cc in omega arith)
dcsr-shown (SpriteAt n p) u v d bus h = absurd (let z : ◌≡◌ {A = ℕ} 0 1 = cc in omega arith)
dcsr-shown (Palette i) u v d bus h = absurd (let z : ◌≡◌ {A = ℕ} 0 1 = cc in omega arith)
dcsr-shown (VideoAt r) u v d bus h = refl
dcsr-shown Ivr u v d bus h = refl
dcsr-shown Converter u v d bus h = refl
dcsr-shown (ChannelAt n r) u v d bus h = refl
dcsr-shown Dcsr u v d bus h = refl
dcsr-shown Status u v d bus h = refl
dcsr-shown Empty u v d bus h = refl

own-shown : (x : Register) (v d e bus : ℕ) → shows_dcsr x ≡ false → shown_by x v d bus ≡ shown_by x v e bus
own-shown (Pixel i) v d e bus h = refl
own-shown (SpriteAt n p) v d e bus h = refl
own-shown (Palette i) v d e bus h = refl
own-shown (VideoAt r) v d e bus h = refl
own-shown Ivr v d e bus h = refl
own-shown Converter v d e bus h = refl
own-shown (ChannelAt n r) v d e bus h = absurd (let z : ◌≡◌ {A = ℕ} 0 1 = cc in omega arith)
own-shown Dcsr v d e bus h = absurd (let z : ◌≡◌ {A = ℕ} 0 1 = cc in omega arith)
own-shown Status v d e bus h = absurd (let z : ◌≡◌ {A = ℕ} 0 1 = cc in omega arith)
own-shown Empty v d e bus h = refl

-- chips within the widths: a register that shows its contents reads the same where these are the same, and one that shows DCSR where
-- that is
module _ (c d : Chip) (ed : Editor) (s t : List ℕ) (wc : Widths c) (wd : Widths d) (x : Register) (bus : ℕ) where
  pub same-own : shows_dcsr x ≡ false → contents c s x ≡ contents d t x → register_read c ed s x bus ≡ register_read d ed t x bus
  same-own h same =
      rw (read-shows c ed s x bus wc, read-shows d ed t x bus wd, same) (own-shown x (contents d t x) (dcsr c ed) (dcsr d ed) bus h)

  pub same-dcsr : dcsr c ed ≡ dcsr d ed → shows_dcsr x ≡ true → register_read c ed s x bus ≡ register_read d ed t x bus
  same-dcsr e h =
      rw (read-shows c ed s x bus wc, read-shows d ed t x bus wd, e)
      (dcsr-shown x (contents c s x) (contents d t x) (dcsr d ed) bus h)
