-- 01, "Sound", and 02, L6: the line report in numbers, case by case, and the processor's accesses from numbers.
use Rattle.std.specs.Prelude.{List, [], ◌∷◌, ℕ}
use Rattle.words.specs.declared.WordKind.TheVariants.{Load, Pause, Repeat, Control, Nothing}
use Rattle.sound.specs.declared.Did.{Did}
use Rattle.sound.specs.declared.Did.TheVariants.{SatOut, Executed}
use Rattle.sound.specs.declared.Entry.{Entry}
use Rattle.sound.specs.declared.Accesses.{Accesses}
use Rattle.sound.specs.Line.{did_of, access_by}

-- 0 sat out; the kind of the word that was executed: 1 LOAD, 2 PAUSE, 3 REPEAT, 4 control, 5 one that does nothing
abbrev pub kind_number : Did → ℕ
kind_number SatOut = 0
kind_number (Executed Load n) = 1
kind_number (Executed Pause n) = 2
kind_number (Executed Repeat n) = 3
kind_number (Executed Control n) = 4
kind_number (Executed Nothing n) = 5

-- the low 12 bits of the word, 0 if it sat out
abbrev pub low_of : Did → ℕ
low_of SatOut = 0
low_of (Executed k n) = n

-- the same of channels 0, 1, 2
abbrev pub kinds_of : List Entry → List ℕ
kinds_of es = kind_number (did_of es 0) ∷ kind_number (did_of es 1) ∷ kind_number (did_of es 2) ∷ []

abbrev pub lows_of : List Entry → List ℕ
lows_of es = low_of (did_of es 0) ∷ low_of (did_of es 1) ∷ low_of (did_of es 2) ∷ []

-- the processor's accesses for channels 0, 1, 2
abbrev pub accesses_by : ℕ → ℕ → ℕ → Accesses
accesses_by a b c = record { first = access_by a; second = access_by b; third = access_by c }
