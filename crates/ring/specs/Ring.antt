-- 02, L5: the last 256 entries, newest first, and how a ring of 256 places holds them.
use Rattle.std.specs.Prelude.{◌≡◌, List, [], ◌∷◌, ℕ, zero, suc, ◌+◌, ◌-◌, ◌%◌, eqb, leb, take, get_or, set}
use Rattle.common.specs.Choice.{if}
use Rattle.ring.specs.declared.Undo.{Undo}

-- the place before this one
abbrev pub back : ℕ → ℕ
back place = (place + 255) % 256

-- so many entries, from the place before this one backwards
unfoldable pub entries : List ℕ → ℕ → ℕ → List ℕ
entries places place zero = []
entries places place (suc n) = get_or places (back place) 0 ∷ entries places (back place) n

-- the record that a ring holds, newest entry first
unfoldable pub record_of : Undo → List ℕ → List ℕ
record_of u places = entries places u.next u.count

-- the newest entry, and the entries after it
abbrev pub head : List ℕ → ℕ
head [] = 0
head (x ∷ xs) = x

abbrev pub tail : {A : Type 0} → List A → List A
tail [] = []
tail (x ∷ xs) = xs

-- with an entry more, of which at most 256 are kept
abbrev pub pushed : Undo → Undo
pushed u = record { next = (u.next + 1) % 256; count = if (leb 256 u.count) 256 (u.count + 1) }

-- without its newest entry; an empty one stays
abbrev pub popped : Undo → Undo
popped u = if (eqb u.count 0) u (record { next = back u.next; count = u.count - 1 })

-- what putting an entry at the next place promises: the places, and, with the entry counted, the record as a list
pub record Puts (u : Undo) (places : List ℕ) (entry : ℕ) (after : List ℕ) : Type 0 where
  pub places-after : after ≡ set places (u.next % 256) entry
  pub record-after : record_of (pushed u) after ≡ take 256 (entry ∷ record_of u places)
