-- What a call other than a line step does to one sound channel: d is the channel before it, e the one after it.
use Rattle.std.specs.Prelude.{◌≡◌, true}
use Rattle.sound.specs.declared.Channel.{Channel}

-- pause, line count, loop counter and mark stay
pub record Keeps (d e : Channel) : Type 0 where
  pub pause : e.pause ≡ d.pause
  pub count : e.count ≡ d.count
  pub counter : e.counter ≡ d.counter
  pub mark : e.mark ≡ d.mark

-- the address and the prescale stay, and an enable that is set stays set
pub record LeftAlone (d e : Channel) : Type 0 where
  pub address : e.address ≡ d.address
  pub prescale : e.prescale ≡ d.prescale
  pub enabled : d.enabled ≡ true → e.enabled ≡ true

-- both
pub record Aside (d e : Channel) : Type 0 where
  pub alone : LeftAlone d e
  pub keeps : Keeps d e
