-- Text as lists of character codes, and text put into a buffer.
use Rattle.std.specs.Prelude.{◌≡◌, List, [], ◌∷◌, ◌++◌, ℕ, ◌+◌, ◌≤◌, length, take}
use Rattle.words.specs.declared.WordKind.{WordKind}
use Rattle.words.specs.declared.WordKind.TheVariants.{Load, Pause, Repeat, Control, Nothing}
use Rattle.sound.specs.declared.Did.{Did}
use Rattle.sound.specs.declared.Did.TheVariants.{SatOut, Executed}
use Rattle.std.specs.Fmt.{decimal}
use Rattle.text.specs.declared.Output.{Output}

-- a number in decimal with no zeros in front
abbrev pub numeral : ℕ → List ℕ
numeral n = decimal n

-- a space and a number
abbrev pub spaced_numeral : ℕ → List ℕ
spaced_numeral n = 32 ∷ numeral n

abbrev pub line_end : List ℕ
line_end = 10 ∷ []

-- a space and the name of a kind: load, pause, repeat, control, nothing
abbrev pub kind_name : WordKind → List ℕ
kind_name Load = 32 ∷ 108 ∷ 111 ∷ 97 ∷ 100 ∷ []
kind_name Pause = 32 ∷ 112 ∷ 97 ∷ 117 ∷ 115 ∷ 101 ∷ []
kind_name Repeat = 32 ∷ 114 ∷ 101 ∷ 112 ∷ 101 ∷ 97 ∷ 116 ∷ []
kind_name Control = 32 ∷ 99 ∷ 111 ∷ 110 ∷ 116 ∷ 114 ∷ 111 ∷ 108 ∷ []
kind_name Nothing = 32 ∷ 110 ∷ 111 ∷ 116 ∷ 104 ∷ 105 ∷ 110 ∷ 103 ∷ []

-- what a channel did: a dash if it sat out, else the kind and the low 12 bits
abbrev pub did_text : Did → List ℕ
did_text SatOut = 32 ∷ 45 ∷ []
did_text (Executed kind low) = kind_name kind ++ spaced_numeral low

-- a text put at a place: what stood before it stays, and the next place is that after it
pub record Appends (before : List ℕ) (at : ℕ) (text after : List ℕ) (next : ℕ) : Type 0 where
  pub place : next ≡ at + length text
  pub shown : take next after ≡ take at before ++ text

-- a text put into an output: at its place, in the same buffer, which is as long as before
pub record Prints (o : Output) (text : List ℕ) (o' : Output) : Type 0 where
  pub lent : o'.bytes.ghost_name ≡ o.bytes.ghost_name
  pub size : length o'.bytes.now ≡ length o.bytes.now
  pub puts : Appends o.bytes.now o.at text o'.bytes.now o'.at

-- an output has room for so many bytes more
abbrev pub Room : Output → ℕ → Type 0
Room o n = o.at + n ≤ length o.bytes.now
