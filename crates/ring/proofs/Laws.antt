-- An entry pushed and popped.
use Rattle.std.proofs.Common.{◌≡◌, ℕ, zero, suc, ◌+◌, ◌%◌, ◌-◌, ◌<◌, ◌≤◌, Bool, true, false, List, [], ◌∷◌, length, take, get_or, set, eqb, refl, ap, subst, arith, add-one, mod-eq_of_lt, le-leb, eqb-true, get_or-set_same, get_or-set_other}
use borrow.Author.Tests.{lt-leb, eqb-false}
use native.Mathlib.Numerals.{unary_clauses}
use Rattle.common.proofs.Order.{either_side}
use Rattle.common.specs.Choice.{if}
use lib.Seq.{take-nil}
use Rattle.ring.specs.declared.Undo.{Undo}
use Rattle.ring.specs.Ring.{back, entries, record_of, Puts, popped, tail, head}

-- the place at which an entry is put is met again only 256 entries on: j places back, n entries are read
untouched : (places : List ℕ) (next e place j n : ℕ) → next < 256 → (place + j) % 256 ≡ next → j + n < 256 →
    entries (set places next e) place n ≡ entries places place n
unfolding entries
untouched places next e place j zero h p q = refl
untouched places next e place j (suc n) h p q =
    rw (
      get_or-set_other places next (back place) e 0 (λ same. omega arith),
      untouched places next e (back place) (suc j) n h (omega arith) (omega arith),
    )

-- fewer entries are the first of them
fewer : (places : List ℕ) (place n k : ℕ) → n ≤ k → take n (entries places place k) ≡ entries places place n
unfolding entries
fewer places place zero k h = refl
fewer places place (suc n) zero h = absurd (omega arith)
fewer places place (suc n) (suc k) h = ap (λ l. get_or places (back place) 0 ∷ l) (fewer places (back place) n k (omega arith))

all : (places : List ℕ) (place n k : ℕ) → k ≤ n → take n (entries places place k) ≡ entries places place k
unfolding entries
all places place n zero h = take-nil n
all places place zero (suc k) h = absurd (omega arith)
all places place (suc n) (suc k) h = ap (λ l. get_or places (back place) 0 ∷ l) (all places (back place) n k (omega arith))

-- a place counts by its remainder
same_back : (places : List ℕ) (place n : ℕ) → entries places (place % 256) n ≡ entries places place n
unfolding entries
same_back places place zero = refl
same_back places place (suc n) = let e : back (place % 256) ≡ back place = omega arith in rw e

module _ (places : List ℕ) (next e : ℕ) (whole : length places ≡ 256) where
  back-again : back ((next + 1) % 256) ≡ next % 256
  back-again = omega arith

  pushed-list : (n : ℕ) → n < 256 → entries (set places (next % 256) e) ((next + 1) % 256) (suc n) ≡ e ∷ entries places next n
  unfolding entries
  pushed-list n q =
      rw (
        back-again,
        get_or-set_same places (next % 256) e 0 (omega arith),
        untouched places (next % 256) e (next % 256) 0 n (omega arith) (omega arith) (omega arith),
        same_back places next n,
      )

  push_short :
      (count : ℕ) → count < 256 →
      entries (set places (next % 256) e) ((next + 1) % 256) (count + 1) ≡ take 256 (e ∷ entries places next count)
  push_short count q = rw (add-one count, pushed-list count q, all places next 255 count (omega arith))

  push_full :
      (count : ℕ) → 256 ≤ count →
      entries (set places (next % 256) e) ((next + 1) % 256) 256 ≡ take 256 (e ∷ entries places next count)
  push_full count q = rw (fewer places next 255 count (omega arith)) (pushed-list 255 (omega arith))

-- an entry put at the next place, with room for it and without
pub puts : (u : Undo) (places : List ℕ) (entry : ℕ) → length places ≡ 256 → Puts u places entry (set places (u.next % 256) entry)
unfolding record_of
puts u places entry whole =
    record {
      places-after = refl;
      record-after =
          either_side u.count 256
          (λ less. rw (lt-leb 256 u.count less) (push_short places u.next entry whole u.count less))
          (λ more. rw (le-leb 256 u.count more) (push_full places u.next entry whole u.count more));
    }

-- a place below 256 is its own remainder
pub puts-at : (u : Undo) (places : List ℕ) (entry : ℕ) → length places ≡ 256 → u.next < 256 → Puts u places entry (set places u.next entry)
puts-at u places entry whole small =
    subst (λ n. Puts u places entry (set places n entry)) (mod-eq_of_lt small) (puts u places entry whole)

module _ (u : Undo) (places : List ℕ) where
  one_less : (place n : ℕ) → 0 < n → entries places place n ≡ get_or places (back place) 0 ∷ entries places (back place) (n - 1)
  unfolding entries
  one_less place zero h = absurd (omega arith)
  one_less place (suc n) h = simp unary_clauses

  none : u.count ≡ 0 → record_of u places ≡ []
  unfolding record_of entries
  none h = rw h

  some : (u.count ≡ 0 → ⊥) →
      record_of u places ≡ get_or places (back u.next) 0 ∷ record_of (record { next = back u.next; count = u.count - 1 }) places
  unfolding record_of
  some h = one_less u.next u.count (omega arith)

  -- the newest entry
  pub newest-none : u.count ≡ 0 → 0 ≡ head (record_of u places)
  newest-none h = rw (none h)

  pub newest-some : (u.count ≡ 0 → ⊥) → get_or places (back u.next) 0 ≡ head (record_of u places)
  newest-some h = rw (some h)

  -- a record without it is the tail, whatever it holds
  pub pop_record : record_of (popped u) places ≡ tail (record_of u places)
  pop_record = go (eqb u.count 0) refl
    where
      go : (t : Bool) → eqb u.count 0 ≡ t →
          record_of (if t u (record { next = back u.next; count = u.count - 1 })) places ≡ tail (record_of u places)
      go true e = rw (none (eqb-true _ _ e))
      go false e = rw (some (eqb-false _ _ e))
