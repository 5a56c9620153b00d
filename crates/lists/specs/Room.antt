-- 02, L12: where a list fits between the others.
use Rattle.std.specs.Prelude.{◌≡◌, true, List, ◌⊎◌, ℕ, ◌+◌, ◌-◌, ◌*◌, ◌/◌, ◌%◌, ◌<◌, ◌≤◌, get_or}
use Rattle.lists.specs.declared.Area.{Area}
use Rattle.lists.specs.Area.{lower, upper, has}

-- a place is a number: 32,768 times the words before its start, and the words before its last one. Both its start and its end are even, and
-- the end is at most 65,536, whatever the number
unfoldable pub start_of : ℕ → ℕ
start_of p = p / 32768 * 2

unfoldable pub end_of : ℕ → ℕ
end_of p = (p % 32768 + 1) * 2

-- the place of so many bytes from an address on
unfoldable pub place_of : ℕ → ℕ → ℕ
place_of a bytes = a / 2 * 32768 + ((a + bytes) / 2 - 1)

-- the place of a handle's list
abbrev pub place_at : List ℕ → ℕ → ℕ
place_at places handle = get_or places handle 0

-- so many bytes from an address on have none in common with a place
abbrev pub Apart : ℕ → ℕ → ℕ → Type 0
Apart p a bytes = (a + bytes ≤ start_of p) ⊎ (end_of p ≤ a)

-- a whole list fits at an address: it is even, the list lies within the area, and it has no byte in common with a placed one
pub record Fits (area : Area) (places : List ℕ) (bytes a : ℕ) : Type 0 where
  pub even : a % 2 ≡ 0
  pub above : lower area ≤ a
  pub below : a + bytes ≤ upper area
  pub between : (k : ℕ) → k < 64 → has area k ≡ true → Apart (place_at places k) a bytes

-- and at no lower one
pub record Lowest (area : Area) (places : List ℕ) (bytes a : ℕ) : Type 0 where
  pub fits : Fits area places bytes a
  pub lowest : (b : ℕ) → Fits area places bytes b → a ≤ b
