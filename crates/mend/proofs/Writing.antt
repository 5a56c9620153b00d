-- Words mended one by one, and their changes reported.
use Rattle.std.proofs.Common.{◌≡◌, ℕ, ◌+◌, ◌*◌, ◌/◌, ◌<◌, ◌≤◌, List, [], ◌∷◌, ◌++◌, length, take, drop, get_or, set, map, refl, sym, ap, ◌∙◌, arith, append_assoc, length-append}
use Rattle.std.proofs.lemmas.List.{drop_more, take_more, get_or_at, set_at, map-append, length-map, length-take-le}
use Rattle.std.proofs.lemmas.List.Edits.{sets}
use Rattle.common.proofs.Lists.{sets-append}
use Rattle.mend.specs.Rule.{mended, changes_from, numbers_of}
use Rattle.mend.specs.Passes.{change_of, MendsWord}
use Rattle.mend.specs.declared.Change.{Change}
use Rattle.mend.proofs.Measuring.{changes-next, changes-within}

-- the numbers of changes after changes, two of each
pub numbers_append : (a b : List Change) → numbers_of (a ++ b) ≡ numbers_of a ++ numbers_of b
unfolding numbers_of
numbers_append [] b = refl
numbers_append (c ∷ a) b = rw (numbers_append a b)

pub numbers_length : (a : List Change) → length (numbers_of a) ≡ length a * 2
unfolding numbers_of
numbers_length [] = refl
numbers_length (c ∷ a) = omega (arith, numbers_length a)

pub then_told :
    (report : List ℕ) (a b : List Change) →
    sets (sets report 0 (numbers_of a)) (length a * 2) (numbers_of b) ≡ sets report 0 (numbers_of (a ++ b))
then_told report a b =
    let n : length a * 2 ≡ 0 + length (numbers_of a) = omega (arith, numbers_length a) in
    rw (n, sets-append, numbers_append)

-- the words before a place are mended, and those from there on as they were
abbrev pub half : List ℕ → ℕ → List ℕ
half before i = map mended (take i before) ++ drop i before

module _ (before : List ℕ) (i : ℕ) (h : i < length before) where
  front : List ℕ
  front = map mended (take i before)

  front-length : length front ≡ i
  unfolding front
  front-length = rw (length-map, length-take-le i before (omega arith))

  pub word-there : get_or (half before i) i 0 ≡ get_or before i 0
  unfolding front
  word-there = rw (drop_more before i 0 h) (get_or_at front _ _ 0 i front-length)

  pub half-next : set (half before i) i (mended (get_or before i 0)) ≡ half before (i + 1)
  unfolding front
  half-next =
      let w : ℕ = get_or before i 0 in
      rw (drop_more before i 0 h, take_more before i 0 h, map-append)
      (set_at front w _ (mended w) i front-length ∙ sym (append_assoc front (mended w ∷ []) (drop (i + 1) before)))

-- the words before a place are mended, and their changes reported
pub record Stage (before report words told : List ℕ) (count i : ℕ) : Type 0 where
  pub mending : words ≡ half before i
  pub telling : told ≡ sets report 0 (numbers_of (changes_from 0 (take i before)))
  pub counting : count ≡ length (changes_from 0 (take i before))

module _ {before report words told : List ℕ} {count i : ℕ} (s : Stage before report words told count i) (h : i < length before) where
  word-is : get_or words i 0 ≡ get_or before i 0
  word-is = rw s.mending (word-there before i h)

  -- there is room for one change more
  pub stage_room :
      length (changes_from 0 before) ≤ length report / 2 → length told ≡ length report →
      count + length (change_of i (get_or words i 0)) ≤ length told / 2
  stage_room r e =
      let next = simp length-append at (ap length (changes-next before i h)) in
      rw word-is (omega (arith, s.counting, next, changes-within before (i + 1)))

  -- one word more
  pub stage_more :
      {word next : ℕ} {told' : List ℕ} → MendsWord (get_or words i 0) i told count word told' next →
      Stage before report (set words i word) told' next (i + 1)
  stage_more m =
      record {
        mending = rw (m.mending, word-is, s.mending) (half-next before i h);
        telling = m.told ∙ rw (word-is, s.telling, s.counting, then_told, ← changes-next before i h);
        counting = m.counted ∙ rw (word-is, s.counting, changes-next before i h, length-append);
      }
