-- 02, L5: what a page read shows of a register is told by the register's contents, but where it shows DCSR or the bus byte.
use Rattle.std.specs.Prelude.{Bool, true, false, ℕ, ◌%◌, eqb, leb, ltb}
use Rattle.common.specs.Choice.{if}
use Rattle.registers.specs.declared.address.Register.{Register}
use Rattle.registers.specs.declared.address.Register.TheVariants.{Pixel, Sprite as SpriteAt, Palette, Video as VideoAt, Ivr, Converter, Channel as ChannelAt, Dcsr, Status, Empty}

-- the high byte of a coordinate that is negative from these upper bits on shows FFh
abbrev pub high_by : ℕ → ℕ → ℕ
high_by limit v = if (leb limit v) 255 v

-- +0 to +3 of a sprite: X is negative where its upper bits are 3, Y where its upper bit is 1
abbrev pub sprite_by : ℕ → ℕ → ℕ
sprite_by place v = if (eqb place 1) (high_by 3 v) (if (eqb place 3) (high_by 1 v) v)

-- a register with contents v, where DCSR reads as d
abbrev pub shown_by : Register → ℕ → ℕ → ℕ → ℕ
shown_by (Pixel i) v d bus = v % 16
shown_by (SpriteAt n p) v d bus = if (ltb p 4) (sprite_by p v) bus
shown_by (Palette i) v d bus = v
shown_by (VideoAt r) v d bus = bus
shown_by Ivr v d bus = bus
shown_by Converter v d bus = 0
shown_by (ChannelAt n r) v d bus = d
shown_by Dcsr v d bus = d
shown_by Status v d bus = d
shown_by Empty v d bus = bus

-- the registers that show DCSR and not their own contents
abbrev pub shows_dcsr : Register → Bool
shows_dcsr (Pixel i) = false
shows_dcsr (SpriteAt n p) = false
shows_dcsr (Palette i) = false
shows_dcsr (VideoAt r) = false
shows_dcsr Ivr = false
shows_dcsr Converter = false
shows_dcsr (ChannelAt n r) = true
shows_dcsr Dcsr = true
shows_dcsr Status = true
shows_dcsr Empty = false
