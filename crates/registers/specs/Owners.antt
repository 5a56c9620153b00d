-- 02, L9: whose each register is.
use Rattle.std.specs.Prelude.{Bool, true, false, not, ℕ, ◌/◌}
use Rattle.common.specs.Choice.{bit}
use Rattle.editors.specs.declared.Editor.{Editor}
use Rattle.editors.specs.declared.Table.{Table}
use Rattle.editors.specs.Table.{mine}
use Rattle.registers.specs.declared.address.Register.{Register}
use Rattle.registers.specs.declared.address.Register.TheVariants.{Pixel, Sprite, Palette, Video, Ivr, Converter, Channel, Dcsr, Status, Empty}
use Rattle.registers.specs.declared.address.ChannelRegister.TheVariants.{StartLow}

-- the register is the editor's: a sprite has 256 pixels, which are its owner's, and a palette entry two bytes; PRI, split and scroll
-- are the picture editor's; IVR is neither's while a table holds. DCSR, and what can't be written, is nobody's
abbrev pub owns : Table → Editor → Register → Bool
owns t e (Pixel i) = mine t e (bit (i / 256) t.sprites)
owns t e (Sprite n p) = mine t e (bit n t.sprites)
owns t e (Palette i) = mine t e (bit (i / 2) t.palette)
owns t e (Video v) = mine t e true
owns t e Ivr = not t.held
owns t e Converter = false
owns t e (Channel n r) = mine t e (bit n t.channels)
owns t e Dcsr = false
owns t e Status = false
owns t e Empty = false

-- a channel is the editor's if its registers are
abbrev pub owns_channel : Table → Editor → ℕ → Bool
owns_channel t e n = owns t e (Channel n StartLow)
