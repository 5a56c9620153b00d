-- What is left of a list while a channel plays it: lines to its STOP, and cycles. Of the channel only the address, the prescale and what
-- counts (pause with its line count, loop counter with its mark) are used, and RAM.
use Rattle.std.specs.Prelude.{List, ℕ, zero, suc, ◌+◌, ◌-◌, ◌*◌, ◌/◌}
use Rattle.common.specs.Choice.{if}
use Rattle.sound.specs.Channels.{word_at}
use Rattle.sound.specs.declared.Access.{Access}
use Rattle.sound.specs.declared.Channel.{Channel}
use Rattle.forecast.specs.Rule.{lines_of, cycles_of, words_of, closes, total}

-- the lines that a pause still sits out before the next word. With p + 1 to go, p of them are prescale + 1 lines each; the one that is
-- running has prescale less its line count, since on the line that would be its last the next word is executed
unfoldable pub waits : ℕ → ℕ → ℕ → ℕ
waits prescale zero count = 0
waits prescale (suc p) count = p * (prescale + 1) + (prescale - count)

-- the cost of the words from one address up to but not at another, so many of them
unfoldable pub cost_from : (ℕ → ℕ) → List ℕ → ℕ → ℕ → ℕ
cost_from cost ram zero a = 0
cost_from cost ram (suc n) a = cost (word_at ram a) + cost_from cost ram n (a + 2)

abbrev pub cost_between : (ℕ → ℕ) → List ℕ → ℕ → ℕ → ℕ
cost_between cost ram from upto = cost_from cost ram ((upto - from) / 2) from

-- what is left to pay at these words with the loop counter at k, where those since the mark cost `since` a pass: the words
-- ahead, and what a LOOP ahead goes back over
unfoldable pub ahead : (ℕ → ℕ) → ℕ → ℕ → List ℕ → ℕ
ahead cost k since ws = total cost k ws + (if (closes ws) (k * since) 0)

-- what is left to pay of the list that an enabled channel plays
unfoldable pub left : (ℕ → ℕ) → List ℕ → Channel → ℕ
left cost ram c =
    ahead cost c.counter (cost_between cost ram c.mark c.address) (words_of ram c.address)

-- the lines left to the STOP: those that the pause still sits out, and those of the words
unfoldable pub lines_left : List ℕ → Channel → ℕ
lines_left ram c = waits c.prescale c.pause c.count + left (lines_of c.prescale) ram c

-- and the channel's own cycles, if each pass of a LOAD meets this access
unfoldable pub cycles_left : Access → List ℕ → Channel → ℕ
cycles_left a ram c = left (cycles_of a) ram c
