-- 02, L10 and L13: a list as a channel plays it, line by line, and what is the same of two plays.
use Rattle.std.specs.Prelude.{◌≡◌, Bool, true, false, List, [], ◌∷◌, ℕ, ◌+◌, ◌*◌, ◌<◌}
use Rattle.words.specs.Words.{int_bit}
use Rattle.words.specs.declared.WordKind.TheVariants.{Load, Pause, Repeat, Control, Nothing}
use Rattle.sound.specs.declared.Access.{Access}
use Rattle.sound.specs.declared.Channel.{Channel}
use Rattle.sound.specs.declared.Did.{Did}
use Rattle.sound.specs.declared.Did.TheVariants.{SatOut, Executed}
use Rattle.sound.specs.Line.{channel_after, did_on, loaded, heard, own_cycles}
use Rattle.forecast.specs.Demand.{did_stop, did_sit}
use Rattle.forecast.specs.Played.{Line}

-- line after line of a channel, each on the RAM that it is lent
abbrev pub played_on : List (List ℕ) → Channel → List Line
played_on [] c = []
played_on (ram ∷ rams) c = record { before = c; did = did_on ram c; after = channel_after ram c } ∷ played_on rams (channel_after ram c)

-- ---- two lines are the same: the channel before and after it; what its LOAD sets, and what the PSG gets of it, which of a muted channel
-- is nothing, whatever the PSG holds; whether an INT and whether a STOP is executed, also where an interrupt waits already; the channel's
-- own cycles, whatever the processor does. The kind of the word and its low bits may differ: 5ABC is reported as a word that does nothing,
-- 4000 as a control word

abbrev pub did_int : Did → Bool
did_int SatOut = false
did_int (Executed Load n) = false
did_int (Executed Pause n) = false
did_int (Executed Repeat n) = false
did_int (Executed Control n) = int_bit n
did_int (Executed Nothing n) = false

pub record SameDeed (d e : Did) : Type 0 where
  pub load : (registers : List ℕ) → loaded registers d ≡ loaded registers e
  pub int : did_int d ≡ did_int e
  pub stop : did_stop d ≡ did_stop e
  pub cycles : (a : Access) → own_cycles a d ≡ own_cycles a e

pub record SameLine (l m : Line) : Type 0 where
  pub before : l.before ≡ m.before
  pub deed : SameDeed l.did m.did
  pub psg : (registers : List ℕ) → heard l.before registers l.did ≡ heard m.before registers m.did
  pub after : l.after ≡ m.after

-- ---- the word that a line executes is one of so many from a start on. Its address is the channel's before the line; where the channel
-- sits out, as on the lines of a PAUSE that was the last word, none is executed

pub record WordOf (start words address : ℕ) : Type 0 where
  pub place : ℕ
  pub below : place < words
  pub stands : address ≡ start + place * 2

abbrev pub Among : ℕ → ℕ → Line → Type 0
Among start words l = did_sit l.did ≡ false → WordOf start words l.before.address

-- ---- two plays, the old words' and the mended words'

-- line by line up to and with that of the first STOP, or until a word beyond those in use is executed, the two are the same
abbrev pub SamePlay : ℕ → ℕ → List Line → List Line → Type 0
SamePlay start used [] ms = Unit {0}
SamePlay start used (l ∷ ls) [] = Unit {0}
SamePlay start used (l ∷ ls) (m ∷ ms) = Among start used l → SameLine l m × (did_stop l.did ≡ false → SamePlay start used ls ms)

-- up to and with the line of the first STOP no word is executed but those in use
abbrev pub KeepsTo : ℕ → ℕ → List Line → Type 0
KeepsTo start used [] = Unit {0}
KeepsTo start used (l ∷ ls) = Among start used l × (did_stop l.did ≡ false → KeepsTo start used ls)

-- on the first line that executes another word than those in use, that word is the one after the last of them; there the other play,
-- with the same channel before the line, executes a STOP
pub record EndsAt (end : ℕ) (l m : Line) : Type 0 where
  pub address : l.before.address ≡ end
  pub before : l.before ≡ m.before
  pub stop : did_stop m.did ≡ true

abbrev pub StopsAfter : ℕ → ℕ → List Line → List Line → Type 0
StopsAfter start used [] ms = Unit {0}
StopsAfter start used (l ∷ ls) [] = Unit {0}
StopsAfter start used (l ∷ ls) (m ∷ ms) =
    ((Among start used l → ⊥) → EndsAt (start + used * 2) l m) × (Among start used l → StopsAfter start used ls ms)
