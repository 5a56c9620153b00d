-- Words one by one: their changes, and whether a STOP stands among them.
use Rattle.std.proofs.Common.{◌≡◌, ℕ, suc, ◌+◌, ◌<◌, ◌≤◌, Bool, true, false, ◌||◌, List, [], ◌∷◌, ◌++◌, length, take, drop, get_or, refl, sym, ap, ◌∙◌, arith, append_assoc, length-append, add-zero, take-append-drop, not, eqb}
use Rattle.std.proofs.lemmas.List.{append-nil, length-take, length-take-le, take_more}
use Rattle.std.proofs.Math.Bool.{or_assoc, or-false}
use mir.Val.{bool_byte}
use Rattle.common.specs.Choice.{if}
use Rattle.words.specs.Words.{stops, has_stop}
use Rattle.mend.specs.Rule.{mended, changes_from}
use Rattle.mend.specs.Passes.{change, change_of}

-- the changes of a word, then those of the words after it
pub changes-more : (p w : ℕ) (ws : List ℕ) → changes_from p (w ∷ ws) ≡ change_of p w ++ changes_from (suc p) ws
unfolding changes_from
changes-more p w ws = by-test (eqb (mended w) w)
  where
    by-test :
        (t : Bool) →
        elim t [ true ↦ changes_from (suc p) ws | false ↦ change p w ∷ changes_from (suc p) ws ]
        ≡ if t [] (change p w ∷ []) ++ changes_from (suc p) ws
    by-test true = refl
    by-test false = refl

-- of a word one, where mending changes it
pub one-count : (p w : ℕ) → length (change_of p w) ≡ bool_byte (not (eqb (mended w) w))
one-count p w = by-test (eqb (mended w) w)
  where
    by-test : (t : Bool) → length (if t [] (change p w ∷ [])) ≡ bool_byte (not t)
    by-test true = refl
    by-test false = refl

pub one-most : (t : Bool) → bool_byte t ≤ 1
one-most true = omega arith
one-most false = omega arith

few : (p : ℕ) (ws : List ℕ) → length (changes_from p ws) ≤ length ws
unfolding changes_from
few p [] = omega arith
few p (w ∷ ws) = rw (changes-more p w ws, length-append) (omega (arith, one-count p w, one-most (not (eqb (mended w) w)), few (suc p) ws))

-- those of words after words
pub changes-append : (p : ℕ) (xs ys : List ℕ) → changes_from p (xs ++ ys) ≡ changes_from p xs ++ changes_from (p + length xs) ys
unfolding changes_from
changes-append p [] ys = rw add-zero
changes-append p (w ∷ xs) ys =
    let e : p + suc (length xs) ≡ suc p + length xs = omega arith in
    rw (changes-more p w (xs ++ ys), changes-append (suc p) xs ys, changes-more p w xs, e, append_assoc)

stops-append : (xs ys : List ℕ) → has_stop (xs ++ ys) ≡ (has_stop xs || has_stop ys)
unfolding has_stop
stops-append [] ys = refl
stops-append (w ∷ xs) ys = rw (stops-append xs ys) (sym (or_assoc (stops w) (has_stop xs) (has_stop ys)))

one-word : (p w : ℕ) → changes_from p (w ∷ []) ≡ change_of p w
unfolding changes_from
one-word p w = changes-more p w [] ∙ append-nil (change_of p w)

module _ (ws : List ℕ) (i : ℕ) where
  -- the first words have no more of them than all
  pub changes-within : length (changes_from 0 (take i ws)) ≤ length (changes_from 0 ws)
  changes-within =
      let all = ap (λ l. length (changes_from 0 l)) (take-append-drop i ws) in
      omega (arith, all, simp length-append at (ap length (changes-append 0 (take i ws) (drop i ws))))

  module _ (h : i < length ws) where
    -- one word more
    pub changes-next : changes_from 0 (take (i + 1) ws) ≡ changes_from 0 (take i ws) ++ change_of i (get_or ws i 0)
    changes-next =
        let n : 0 + length (take i ws) ≡ i = omega (arith, length-take-le i ws (omega arith)) in
        rw (take_more ws i 0 h, changes-append 0 (take i ws) (get_or ws i 0 ∷ []), n, one-word)

    pub stops-next : has_stop (take (i + 1) ws) ≡ (has_stop (take i ws) || stops (get_or ws i 0))
    unfolding has_stop
    stops-next = rw (take_more ws i 0 h, stops-append) (ap (λ b. has_stop (take i ws) || b) (or-false (stops (get_or ws i 0))))

pub count-next : (ws : List ℕ) (i : ℕ) → i < length ws → length (changes_from 0 (take (i + 1) ws)) ≡ length (changes_from 0 (take i ws)) + bool_byte (not (eqb (mended (get_or ws i 0)) (get_or ws i 0)))
count-next ws i h = rw (changes-next ws i h, length-append, one-count)

pub count-few : (ws : List ℕ) (i : ℕ) → length (changes_from 0 (take i ws)) ≤ i
count-few ws i = let h = simp length-take at (few 0 (take i ws)) in omega arith

pub ruleset steps = (count-next, stops-next, count-few, one-most)
