-- A sprite or a channel that is off has contents of 0.
use mathlib.Core.Path.{◌≡◌, refl}
use Prim.Native.Nat.{ℕ, zero, suc}
use Rattle.sound.specs.Line.{off_channel}
use Rattle.picture.specs.Sprites.{off_sprite, sprite_contents}
use Rattle.registers.specs.declared.address.ChannelRegister.{ChannelRegister}
use Rattle.registers.specs.declared.address.ChannelRegister.TheVariants.{StartLow, StartHigh, Prescale}
use Rattle.contents.specs.Contents.{channel_contents}

pub off-sprite : (p : ℕ) → 0 ≡ sprite_contents off_sprite p
unfolding sprite_contents
off-sprite zero = refl
off-sprite (suc zero) = refl
off-sprite (suc (suc zero)) = refl
off-sprite (suc (suc (suc zero))) = refl
off-sprite (suc (suc (suc (suc zero)))) = refl
off-sprite (suc (suc (suc (suc (suc p))))) = refl

pub off-channel : (r : ChannelRegister) → 0 ≡ channel_contents off_channel r
off-channel StartLow = refl
off-channel StartHigh = refl
off-channel Prescale = refl

pub ruleset off = (off-sprite, off-channel)
