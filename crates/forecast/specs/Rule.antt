-- 01, "Sound": the forecast, over the words of a list and how many times each passes.
use Rattle.std.specs.Prelude.{◌≡◌, Bool, true, false, List, [], ◌∷◌, ℕ, zero, suc, ◌+◌, ◌-◌, ◌*◌, ◌/◌, eqb, ltb, length, take, drop}
use Rattle.common.specs.Choice.{if, both}
use Rattle.common.specs.Answers.{done, wrong_length, no_stop}
use Rattle.common.specs.Sizes.{ram_bytes}
use Rattle.words.specs.Words.{kind_of, is_load, is_pause, low12, repeats, loops, stops, has_stop}
use Rattle.sound.specs.declared.Access.{Access}
use Rattle.sound.specs.declared.Access.TheVariants.{Off, PsgWrite}
use Rattle.sound.specs.Channels.{word_at}
use Rattle.sound.specs.Line.{disturbance}

-- PAUSE M above 0 is M x (prescale + 1) lines, any other word 1
unfoldable pub lines_of : ℕ → ℕ → ℕ
lines_of prescale w = if (both (is_pause (kind_of w)) (ltb 0 (low12 w))) (low12 w * (prescale + 1)) 1

-- 9 cycles for a LOAD, and what the processor takes from it where it meets this access; 2 for another word
unfoldable pub cycles_of : Access → ℕ → ℕ
cycles_of a w = if (is_load (kind_of w)) (9 + disturbance a) 2

-- RAM has these words from an address on
abbrev pub Has : List ℕ → ℕ → List ℕ → Type 0
Has ram a [] = Unit {0}
Has ram a (w ∷ ws) = (word_at ram a ≡ w) × Has ram (a + 2) ws

-- at most so many words from an address on, through the first STOP
unfoldable pub words_from : List ℕ → ℕ → ℕ → List ℕ
words_from ram zero a = []
words_from ram (suc n) a = word_at ram a ∷ elim (stops (word_at ram a)) [ true ↦ [] | false ↦ words_from ram n (a + 2) ]

-- the words from an address to FFFEh, through the first STOP
unfoldable pub words_of : List ℕ → ℕ → List ℕ
words_of ram a = words_from ram ((ram_bytes - a) / 2) a

-- a LOOP comes next, before any REPEAT, and neither in the STOP's own word nor beyond it
unfoldable pub closes : List ℕ → Bool
closes [] = false
closes (w ∷ ws) = if (stops w) false (if (loops w) true (if (repeats w) false (closes ws)))

-- the count of the last REPEAT before the next word, if no LOOP has come since; else 0
unfoldable pub open_count : ℕ → ℕ → ℕ
open_count k w = if (repeats w) (low12 w) (if (loops w) 0 k)

-- how many times the first of the words passes: K + 1 from after a REPEAT K through the next LOOP, else once
unfoldable pub passes : ℕ → List ℕ → ℕ
passes k ws = if (closes ws) (k + 1) 1

-- the cost of the words, each with its passes; k is the open count before the first
unfoldable pub total : (ℕ → ℕ) → ℕ → List ℕ → ℕ
total cost k [] = 0
total cost k (w ∷ ws) = passes k (w ∷ ws) * cost w + total cost (open_count k w) ws

-- bit 0 of a start address is dropped
abbrev pub even : ℕ → ℕ
even start = start / 2 * 2

-- the forecast's lines
unfoldable pub lines_forecast : List ℕ → ℕ → ℕ → ℕ
lines_forecast ram start prescale = total (lines_of prescale) 0 (words_of ram (even start))

-- the cycles if each pass of a LOAD meets this access
unfoldable pub cycles_meeting : Access → List ℕ → ℕ → ℕ
cycles_meeting a ram start = total (cycles_of a) 0 (words_of ram (even start))

-- the least possible, and the most possible: two more for each pass of a LOAD
abbrev pub cycles_forecast : List ℕ → ℕ → ℕ
cycles_forecast ram start = cycles_meeting Off ram start

abbrev pub most_forecast : List ℕ → ℕ → ℕ
most_forecast ram start = cycles_meeting PsgWrite ram start

-- 1 for RAM of another length, 6 where no STOP stands from the start to FFFEh, exactly then
unfoldable pub answer_of : List ℕ → ℕ → ℕ
answer_of ram start =
    if (eqb (length ram) ram_bytes) (if (has_stop (words_of ram (even start))) done no_stop) wrong_length

-- the bytes of the list, those of its STOP with them
unfoldable pub list_of : List ℕ → ℕ → List ℕ
list_of ram start = take (length (words_of ram (even start)) * 2) (drop (even start) ram)
