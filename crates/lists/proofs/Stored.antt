-- What placing stores: the bytes of RAM before, in and after the list, and where a new place starts and ends.
use Rattle.std.proofs.Common.{◌≡◌, ℕ, zero, suc, ◌+◌, ◌-◌, ◌*◌, ◌/◌, ◌%◌, ◌<◌, ◌≤◌, List, [], ◌∷◌, get_or, length, set, refl, ◌∙◌, arith, add-zero, add-suc, length-set, get_or-set_same, get_or-set_other}
use Rattle.std.proofs.Math.Nat.{suc-add}
use Rattle.std.proofs.lemmas.List.Edits.{sets}
use Rattle.lists.specs.Room.{start_of, end_of, place_of}

pub bytes-before : (ram : List ℕ) (a : ℕ) (list : List ℕ) (i : ℕ) → i < a → get_or (sets ram a list) i 0 ≡ get_or ram i 0
bytes-before ram a [] i h = refl
bytes-before ram a (b ∷ list) i h =
    bytes-before (set ram a b) (suc a) list i (omega arith) ∙ get_or-set_other ram a i b 0 (λ e. omega arith)

pub bytes_after : (ram : List ℕ) (a : ℕ) (list : List ℕ) (i : ℕ) → a + length list ≤ i → get_or (sets ram a list) i 0 ≡ get_or ram i 0
bytes_after ram a [] i h = refl
bytes_after ram a (b ∷ list) i h =
    bytes_after (set ram a b) (suc a) list i (omega arith) ∙ get_or-set_other ram a i b 0 (λ e. omega arith)

pub bytes_in :
    (ram : List ℕ) (a : ℕ) (list : List ℕ) (i : ℕ) → a + length list ≤ length ram → i < length list →
    get_or (sets ram a list) (a + i) 0 ≡ get_or list i 0
bytes_in ram a [] i fits h = absurd (omega arith)
bytes_in ram a (b ∷ list) zero fits h =
    rw add-zero (bytes-before (set ram a b) (suc a) list a (omega arith) ∙ get_or-set_same ram a b 0 (omega arith))
bytes_in ram a (b ∷ list) (suc i) fits h =
    rw (add-suc, ← suc-add) (bytes_in (set ram a b) (suc a) list i (omega (arith, length-set ram a b)) (omega arith))

low_part : (x y : ℕ) → y < 32768 → (x * 32768 + y) % 32768 ≡ y
low_part x y h =
    let q : (x * 32768 + y) / 32768 ≡ x = omega arith in
    omega arith

module _ (a bytes : ℕ) (even : a % 2 ≡ 0) (even' : bytes % 2 ≡ 0) (some : 0 < bytes) (small : a + bytes ≤ 65536) where
  pub place-start : start_of (place_of a bytes) ≡ a
  unfolding start_of place_of
  place-start = omega arith

  pub place_end : end_of (place_of a bytes) ≡ a + bytes
  unfolding end_of place_of
  place_end =
      let w : (a + bytes) / 2 * 2 ≡ a + bytes = omega arith in
      rw (low_part (a / 2) ((a + bytes) / 2 - 1) (omega arith)) (omega arith)
