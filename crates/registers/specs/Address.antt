-- 01, "The register page": what stands at each address.
use Rattle.std.specs.Prelude.{ℕ, ◌-◌, ◌/◌, ◌%◌, eqb, leb, ltb}
use Rattle.common.specs.Choice.{if}
use Rattle.registers.specs.declared.address.VideoRegister.TheVariants.{Pri, SplitLine, SplitHigh, SplitLow, Sscr}
use Rattle.registers.specs.declared.address.ChannelRegister.TheVariants.{StartLow, StartHigh, Prescale}
use Rattle.registers.specs.declared.address.Register.{Register}
use Rattle.registers.specs.declared.address.Register.TheVariants.{Pixel, Sprite, Palette, Video, Ivr, Converter, Channel, Dcsr, Status, Empty}

-- 6000h + 8n: sprite n, with X low, X high, Y low and Y high at +0 to +3; magnification is place 4, at +4 and its mirrors up to +7
unfoldable pub sprite_at : ℕ → Register
sprite_at o = Sprite (o / 8) (if (ltb (o % 8) 4) (o % 8) 4)

-- from 6800h on: PRI, the split's line, the high and the low byte of its address, SSCR, IVR; nothing at 6806h and 6807h; then, up to
-- 680Fh, the converters
unfoldable pub video_at : ℕ → Register
video_at o =
    if (eqb o 0) (Video Pri)
    (if (eqb o 1) (Video SplitLine)
    (if (eqb o 2) (Video SplitHigh)
    (if (eqb o 3) (Video SplitLow)
    (if (eqb o 4) (Video Sscr) (if (eqb o 5) Ivr (if (eqb o 6) Empty (if (eqb o 7) Empty Converter)))))))

-- 6C00h + 4n: channel n, with its start address low and high and its prescale; 6C0Fh DCSR, which every other address up to it
-- shows too
unfoldable pub channel_at : ℕ → Register
channel_at o =
    if (eqb o 15) Dcsr
    (if (leb 12 o) Status
    (if (eqb (o % 4) 0) (Channel (o / 4) StartLow)
    (if (eqb (o % 4) 1) (Channel (o / 4) StartHigh) (if (eqb (o % 4) 2) (Channel (o / 4) Prescale) Status))))

-- 4000h-4FFFh pixels, 6000h-607Fh sprites, 6400h-643Fh palette, 6800h-680Fh and 6C00h-6C0Fh as above; nothing elsewhere
unfoldable pub register_at : ℕ → Register
register_at a =
    if (ltb a 0x4000) Empty
    (if (ltb a 0x5000) (Pixel (a - 0x4000))
    (if (ltb a 0x6000) Empty
    (if (ltb a 0x6080) (sprite_at (a - 0x6000))
    (if (ltb a 0x6400) Empty
    (if (ltb a 0x6440) (Palette (a - 0x6400))
    (if (ltb a 0x6800) Empty
    (if (ltb a 0x6810) (video_at (a - 0x6800)) (if (ltb a 0x6c00) Empty (if (ltb a 0x6c10) (channel_at (a - 0x6c00)) Empty)))))))))
