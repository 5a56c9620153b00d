-- 02, L5: the exported addresses are exactly those whose register can be written, is no pixel and not DCSR, mirrors of magnification
-- left out, in rising order. A table changes who may write, and not what can be written. One test, which the checker computes over every
-- address.
use mathlib.Core.Path.{◌≡◌, refl}
use mathlib.Core.Bool.{Bool, true, false, not}
use mathlib.Core.List.{List, [], ◌∷◌}
use Prim.Native.Nat.{ℕ, zero, suc, ◌%◌}
use lib.Dec.{eqb, leb, ltb}
use lib.ListN.{length}
use Rattle.common.specs.Answers.{done}
use Rattle.common.specs.Choice.{if, both}
use Rattle.editors.specs.declared.Editor.TheVariants.{Song}
use Rattle.editors.specs.Table.{no_table}
use Rattle.registers.specs.declared.address.Register.{Register}
use Rattle.registers.specs.declared.address.Register.TheVariants.{Pixel, Sprite, Palette, Video, Ivr, Converter, Channel, Dcsr, Status, Empty}
use Rattle.registers.specs.Address.{register_at, sprite_at, video_at, channel_at}
use Rattle.registers.specs.Registers.{register_answer}
use Rattle.export.specs.Export.{exported}

-- neither a pixel nor DCSR
abbrev pub plain : Register → Bool
plain (Pixel i) = false
plain (Sprite n p) = true
plain (Palette i) = true
plain (Video v) = true
plain Ivr = true
plain Converter = true
plain (Channel n r) = true
plain Dcsr = false
plain Status = true
plain Empty = true

-- +5 to +7 of a sprite
abbrev pub mirror : ℕ → Bool
mirror a = both (both (leb 0x6000 a) (ltb a 0x6080)) (leb 5 (a % 8))

abbrev pub wanted : ℕ → Bool
wanted a = both (eqb (register_answer no_table Song (register_at a)) done) (both (plain (register_at a)) (not (mirror a)))

-- of so many addresses from this one on, those that are wanted
unfoldable pub picked : ℕ → ℕ → List ℕ
picked a zero = []
picked a (suc n) = if (wanted a) (a ∷ picked (suc a) n) (picked (suc a) n)

pub count : length exported ≡ 159
unfolding exported
count = refl

pub all : exported ≡ picked 0 0x10000
unfolding exported picked register_at sprite_at video_at channel_at
all = refl
