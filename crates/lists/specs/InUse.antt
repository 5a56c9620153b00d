-- 02, L12: a list that an enabled channel has in use, by its address, its mark and its loop counter.
use Rattle.std.specs.Prelude.{Bool, ℕ, ◌+◌, ◌-◌, ◌/◌, leb, ltb}
use Rattle.common.specs.Choice.{both, either}
use Rattle.common.specs.Lists.{any_word}

-- an address lies in the list from s up to but not at e
abbrev pub within : ℕ → ℕ → ℕ → Bool
within s e a = both (leb s a) (ltb a e)

-- a word from a mark up to an address does, both with them
abbrev pub word_within : ℕ → ℕ → ℕ → ℕ → Bool
word_within s e mark address = any_word (within s e) ((address - mark) / 2 + 1) mark

-- the channel's address lies in the list; or, with its loop counter above 0, its mark does, or, if the mark is lower than the address, a
-- word from the one up to the other
unfoldable pub uses : ℕ → ℕ → ℕ → ℕ → ℕ → Bool
uses s e address mark counter =
    either (within s e address)
    (both (ltb 0 counter) (either (within s e mark) (both (ltb mark address) (word_within s e mark address))))
