-- 01, "Lock and ports": whether the chip is unlocked, by the bytes written to BCxx since reset.
use Rattle.std.specs.Prelude.{Bool, true, false, not, List, [], ◌∷◌, ◌++◌, reverse, ℕ, eqb}
use Rattle.common.specs.Choice.{if, both}

-- what a place of a pattern asks of its byte
pub data Place : Type 0 where
  zero_byte : Place
  non_zero : Place
  exactly : ℕ → Place
  anything_but : ℕ → Place
  anything : Place

abbrev pub meets : Place → ℕ → Bool
meets zero_byte b = eqb b 0
meets non_zero b = not (eqb b 0)
meets (exactly k) b = eqb b k
meets (anything_but k) b = not (eqb b k)
meets anything b = true

-- the newest bytes meet the places, newest first on both sides
abbrev pub meets_all : List Place → List ℕ → Bool
meets_all [] h = true
meets_all (p ∷ ps) [] = false
meets_all (p ∷ ps) (b ∷ h) = both (meets p b) (meets_all ps h)

-- a history has the newest byte first. Its last bytes are as the pattern says, which stands in the order of writing
abbrev pub ends_as : List Place → List ℕ → Bool
ends_as pattern h = meets_all (reverse pattern) h

-- one byte that isn't zero, one zero, then the first 13 bytes of the sequence
abbrev pub opening : List Place
opening =
    non_zero ∷ zero_byte ∷ exactly 0xff ∷ exactly 0x77 ∷ exactly 0xb3 ∷ exactly 0x51 ∷ exactly 0xa8 ∷ exactly 0xd4 ∷
    exactly 0x62 ∷ exactly 0x39 ∷ exactly 0x9c ∷ exactly 0x46 ∷ exactly 0x2b ∷ exactly 0x15 ∷ exactly 0x8a ∷ []

-- the last 17 bytes unlock: the opening, CD, and any byte
abbrev pub unlocking : List Place
unlocking = opening ++ (exactly 0xcd ∷ anything ∷ [])

-- the last 16 bytes lock: the opening, and a byte that isn't CD
abbrev pub locking : List Place
locking = opening ++ (anything_but 0xcd ∷ [])

-- the chip is locked after reset. A byte unlocks it, locks it, or leaves it as it was
unfoldable pub unlocked_by : List ℕ → Bool
unlocked_by [] = false
unlocked_by (b ∷ h) =
    if (ends_as unlocking (b ∷ h)) true
    (if (ends_as locking (b ∷ h)) false (unlocked_by h))
