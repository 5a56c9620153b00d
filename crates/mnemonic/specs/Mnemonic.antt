-- Request L1: the line of a word, as character codes.
use Rattle.std.specs.Prelude.{Bool, List, [], ◌∷◌, ◌++◌, ℕ, ◌+◌, ◌*◌, ◌/◌, ◌%◌, eqb}
use Rattle.common.specs.Choice.{if}
use Rattle.digits.specs.Digits.{decimal, hexadecimal}
use Rattle.words.specs.Words.{kind_of, low12, loop_bit, int_bit, stop_bit}
use Rattle.words.specs.declared.WordKind.{WordKind}
use Rattle.words.specs.declared.WordKind.TheVariants.{Load, Pause, Repeat, Control, Nothing}

-- the names: LOAD, PAUSE, REPEAT, LOOP, INT, STOP, NOP and WORD
abbrev pub LOAD : List ℕ
LOAD = 76 ∷ 79 ∷ 65 ∷ 68 ∷ []

abbrev pub PAUSE : List ℕ
PAUSE = 80 ∷ 65 ∷ 85 ∷ 83 ∷ 69 ∷ []

abbrev pub REPEAT : List ℕ
REPEAT = 82 ∷ 69 ∷ 80 ∷ 69 ∷ 65 ∷ 84 ∷ []

abbrev pub LOOP : List ℕ
LOOP = 76 ∷ 79 ∷ 79 ∷ 80 ∷ []

abbrev pub INT : List ℕ
INT = 73 ∷ 78 ∷ 84 ∷ []

abbrev pub STOP : List ℕ
STOP = 83 ∷ 84 ∷ 79 ∷ 80 ∷ []

abbrev pub NOP : List ℕ
NOP = 78 ∷ 79 ∷ 80 ∷ []

abbrev pub WORD : List ℕ
WORD = 87 ∷ 79 ∷ 82 ∷ 68 ∷ []

-- the blank, the plus sign and the LF
abbrev pub blank : ℕ
blank = 32

abbrev pub plus : ℕ
plus = 43

abbrev pub lf : ℕ
lf = 10

-- names joined by a plus sign; NOP where there is none
abbrev pub joined : List (List ℕ) → List ℕ
joined [] = NOP
joined (x ∷ []) = x
joined (x ∷ y ∷ ys) = x ++ plus ∷ joined (y ∷ ys)

-- a name where its bit is 1
abbrev pub named : Bool → List ℕ → List (List ℕ)
named b name = if b (name ∷ []) []

-- a control word by the bits it has, in the order LOOP, INT, STOP
abbrev pub control_text : ℕ → List ℕ
control_text w = joined (named (loop_bit w) LOOP ++ named (int_bit w) INT ++ named (stop_bit w) STOP)

-- the low 12 bits are bit 0 and, in their place, bits 5 and 4: no other bit is 1
abbrev pub plain : ℕ → Bool
plain w = eqb (low12 w) (w % 2 + w / 16 % 4 * 16)

-- a word with no name of its own
abbrev pub word_text : ℕ → List ℕ
word_text w = WORD ++ blank ∷ hexadecimal 4 w

abbrev pub text_by : WordKind → ℕ → List ℕ
text_by Load w = LOAD ++ blank ∷ decimal (w / 256) ++ blank ∷ hexadecimal 2 (w % 256)
text_by Pause w = PAUSE ++ blank ∷ decimal (low12 w)
text_by Repeat w = REPEAT ++ blank ∷ decimal (low12 w)
text_by Control w = if (plain w) (control_text w) (word_text w)
text_by Nothing w = word_text w

-- the line of a word, ended by one LF
unfoldable pub text_line : ℕ → List ℕ
text_line w = text_by (kind_of w) w ++ lf ∷ []

-- the bytes of the longest line, LOOP+INT+STOP and its LF
abbrev pub longest_line : ℕ
longest_line = 14
