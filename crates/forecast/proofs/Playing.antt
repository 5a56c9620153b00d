-- The invariant of a channel in the middle of a list.
use mathlib.Core.Path.{◌≡◌}
use mathlib.Core.Bool.{true, false}
use mathlib.Core.List.{List}
use Prim.Native.Nat.{ℕ, ◌+◌, ◌*◌, ◌<◌}
use lib.ListN.{length}
use Rattle.sound.specs.Channels.{word_at}
use Rattle.sound.specs.declared.Channel.{Channel}
use Rattle.words.specs.Words.{stops, loops, repeats}
use Rattle.forecast.specs.Rule.{words_of}

-- a word that is no STOP, LOOP or REPEAT
pub record Plain (w : ℕ) : Type 0 where
  pub stop : stops w ≡ false
  pub loop : loops w ≡ false
  pub repeat : repeats w ≡ false

-- a mark in a list of which so many words are passed, with only plain words since
pub record Since (ram : List ℕ) (start passed mark : ℕ) : Type 0 where
  pub marked : ℕ
  pub words : ℕ
  pub place : mark ≡ start + marked * 2
  pub between : passed ≡ marked + words
  pub plain : (i : ℕ) → i < words → Plain (word_at ram (mark + i * 2))

-- a channel in the middle of the list at a start: so many of its words are passed, and a LOOP that is still to go back goes to
-- a mark with only plain words since
pub record Playing (ram : List ℕ) (start : ℕ) (c : Channel) : Type 0 where
  pub enabled : c.enabled ≡ true
  pub passed : ℕ
  pub place : c.address ≡ start + passed * 2
  pub within : passed < length (words_of ram start)
  pub since : 0 < c.counter → Since ram start passed c.mark
