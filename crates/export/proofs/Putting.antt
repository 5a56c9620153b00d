-- Three bytes put at a place, and the export with one register more.
use mathlib.Core.Path.{◌≡◌, refl, ap, sym, ◌∙◌}
use mathlib.Core.List.{List, [], ◌∷◌, ◌++◌, append_assoc}
use Prim.Native.Nat.{ℕ, ◌+◌, ◌*◌, ◌/◌, ◌%◌, ◌<◌, ◌≤◌}
use native.Mathlib.Numerals.{add-one}
use native.Mathlib.Omega.{arith}
use lib.ListN.{length, take, get_or, set, length-set}
use lib.Seq.{take-suc, take-suc-set}
use Rattle.common.specs.Lists.{listed}
use Rattle.common.proofs.Lists.{get_or-listed}
use Rattle.chip.specs.declared.Chip.{Chip}
use Rattle.registers.specs.Address.{register_at}
use Rattle.contents.specs.Contents.{contents}
use Rattle.export.specs.Export.{exported, bytes_of}
use Rattle.export.specs.Parts.{address_of, PutsThree}

-- one byte set behind a front
one : (l : List ℕ) (i v : ℕ) → i < length l → take (i + 1) (set l i v) ≡ take i l ++ v ∷ []
one l i v h = rw (add-one i) (take-suc-set l i v h)

pub three :
    (l : List ℕ) (at a v : ℕ) → at + 3 ≤ length l →
    PutsThree at a v l (set (set (set l at (a % 256)) (at + 1) (a / 256)) (at + 2) v)
three l at a v h =
    let m = set l at (a % 256) in
    let n = set m (at + 1) (a / 256) in
    let first : take (at + 1) m ≡ take at l ++ a % 256 ∷ [] = one l at (a % 256) (omega arith) in
    let e : at + 1 + 1 ≡ at + 2 = omega arith in
    let second : take (at + 2) n ≡ take (at + 1) m ++ a / 256 ∷ [] = rw e at (one m (at + 1) (a / 256) (simp length-set (omega arith))) in
    let f : at + 2 + 1 ≡ at + 3 = omega arith in
    let third : take (at + 3) (set n (at + 2) v) ≡ take (at + 2) n ++ v ∷ [] =
    rw f at (one n (at + 2) v (simp (length-set, length-set) (omega arith))) in
    record { front = third ∙ rw (second, first) (simp append_assoc) }

-- the addresses worked out are those of the list
addresses : listed address_of 0 159 ≡ exported
unfolding address_of exported
addresses = refl

pub address_is : (k : ℕ) → k < 159 → address_of k ≡ get_or exported k 0
address_is k h = sym (get_or-listed address_of 0 159 k h ∙ ap address_of (omega arith)) ∙ ap (λ (l : List ℕ). get_or l k 0) addresses

pub how_many : length exported ≡ 159
unfolding exported
how_many = refl

-- the bytes of a list with one address more
bytes-more :
    (c : Chip) (l : List ℕ) (a : ℕ) →
    bytes_of c (l ++ a ∷ []) ≡ bytes_of c l ++ a % 256 ∷ a / 256 ∷ contents c [] (register_at a) ∷ []
unfolding bytes_of
bytes-more c [] a = refl
bytes-more c (b ∷ l) a = ap (λ (m : List ℕ). b % 256 ∷ b / 256 ∷ contents c [] (register_at b) ∷ m) (bytes-more c l a)

-- one turn of the loop
pub one_more :
    (c : Chip) (k : ℕ) {out after : List ℕ} {a v : ℕ} → k < 159 → a ≡ address_of k → v ≡ contents c [] (register_at a) →
    take (k * 3) out ≡ bytes_of c (take k exported) → PutsThree (k * 3) a v out after →
    take ((k + 1) * 3) after ≡ bytes_of c (take (k + 1) exported)
one_more c k {out} {after} {a} {v} h is holds sofar puts =
    let e : (k + 1) * 3 ≡ k * 3 + 3 = omega arith in
    let there : a ≡ get_or exported k 0 = is ∙ address_is k h in
    rw (e, puts.front, sofar, holds)
    (sym (bytes-more c (take k exported) a) ∙ ap (bytes_of c) (rw (there, add-one k) (sym (take-suc exported k 0 (omega (arith, how_many))))))
