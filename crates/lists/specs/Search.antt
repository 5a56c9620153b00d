-- How the code looks for room and for a word in a list. No public promise cites this module.
use Rattle.std.specs.Prelude.{◌≡◌, Bool, true, List, ◌⊎◌, ℕ, ◌+◌, ◌%◌, ◌<◌, ◌≤◌, leb, ltb}
use Rattle.common.specs.Choice.{both, bit}
use Rattle.common.specs.Sizes.{ram_bytes}
use Rattle.lists.specs.declared.Sought.{Sought}
use Rattle.lists.specs.Room.{start_of, end_of, place_at, Apart}

-- a list ends at the address or before, or begins at the address that is kept beside it or after
abbrev pub Aside : ℕ → Sought → Type 0
Aside p at = (end_of p ≤ at.address) ⊎ (at.above ≤ start_of p)

-- one list: where it is in the way the address goes up past it, and no address that it skips was apart from it. Where it stays, so does
-- the room
pub record Past (p bytes : ℕ) (before after : Sought) : Type 0 where
  pub up : before.address ≤ after.address
  pub down : after.above ≤ before.above
  pub bound : after.address ≤ ram_bytes
  pub even : before.address % 2 ≡ 0 → after.address % 2 ≡ 0
  pub low : (b : ℕ) → before.address ≤ b → Apart p b bytes → after.address ≤ b
  pub aside : Aside p after
  pub still : after.address ≡ before.address → before.address + bytes ≤ before.above → before.address + bytes ≤ after.above

-- so many bytes from an address on have none in common with any placed list
pub record Clear (used : ℕ) (places : List ℕ) (bytes a : ℕ) : Type 0 where
  pub between : (k : ℕ) → k < 64 → bit k used ≡ true → Apart (place_at places k) a bytes

-- the first n places, each once
pub record Passed (used : ℕ) (places : List ℕ) (bytes a n : ℕ) (at : Sought) : Type 0 where
  pub up : a ≤ at.address
  pub bound : at.address ≤ ram_bytes
  pub even : a % 2 ≡ 0 → at.address % 2 ≡ 0
  pub low : (b : ℕ) → a ≤ b → Clear used places bytes b → at.address ≤ b
  pub aside : (k : ℕ) → k < n → bit k used ≡ true → Aside (place_at places k) at
  pub still : at.address ≡ a → a + bytes ≤ at.above

-- the lowest even address from a bound on that is clear, whether or not the area goes on so far
pub record Found (used : ℕ) (places : List ℕ) (bytes from a : ℕ) : Type 0 where
  pub even : a % 2 ≡ 0
  pub above : from ≤ a
  pub bound : a ≤ ram_bytes
  pub clear : Clear used places bytes a
  pub lowest : (b : ℕ) → from ≤ b → Clear used places bytes b → a ≤ b

-- whether an address from low up to high lies in the list from s up to e
unfoldable pub meets : ℕ → ℕ → ℕ → ℕ → Bool
meets s e low high = both (ltb s e) (both (leb s high) (ltb low e))
