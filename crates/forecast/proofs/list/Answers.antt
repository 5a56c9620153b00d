-- The bytes from the even start through the STOP lie inside RAM; where no STOP stands the forecast is refused.
use Rattle.std.proofs.Common.{◌≡◌, true, false, List, [], ℕ, ◌+◌, ◌-◌, ◌*◌, ◌<◌, ◌≤◌, length, get_or, drop, take, refl, take_all, length-drop, ap, arith, rules, tests}
use Rattle.std.specs.Option.{MatchOption}
use Rattle.std.specs.List.{AllWithin, HoldsAt}
use Rattle.std.proofs.lemmas.Iterator.{YieldsList-from_slice, IsFirst-from_position}
use Rattle.words.specs.Words.{stops}
use Rattle.sound.specs.Channels.{word_at}
use Rattle.forecast.specs.Rule.{even, words_of, list_of}
use Rattle.forecast.proofs.Words.{pair-word}
use Rattle.forecast.proofs.Walk.{Walked, walked_past, walked_stop, walked-bytes, walked_end}
use Rattle.forecast.proofs.Answer.{answer-length, answer-none, answer-served}
use Rattle.forecast.proofs.list.Goals as goal
use Rattle.forecast.proofs.list.Goals.{After-position}

-- the word of two bytes
abbrev word : List ℕ → ℕ
word pair = get_or pair 0 0 + get_or pair 1 0 * 256

module _ (c : After-position) where
  abbrev ram : List ℕ
  ram = c.args.ram.now

  abbrev first : ℕ
  first = even c.args.start

  abbrev pairs : List (List ℕ)
  pairs = c.as_chunks.result.0.now

  -- the first pair that is a STOP
  found :
      MatchOption c.position.result (AllWithin (λ p. stops (word p) ≡ false) pairs 0 (length pairs))
      (λ i. (i < length pairs) × HoldsAt (λ p. stops (word p) ≡ true) pairs i × AllWithin (λ p. stops (word p) ≡ false) pairs 0 i)
  found =
      IsFirst-from_position _ _ _ (λ p. stops (word p) ≡ true) (λ p. stops (word p) ≡ false) c.position.ensures.ran
      (YieldsList-from_slice pairs cc) (λ x q k. search (rules, tests)) (λ x q k. search (rules, tests))

  -- the pairs are the words
  read : (k : ℕ) → k < length pairs → word (get_or pairs k []) ≡ word_at ram (first + k * 2)
  read k l =
      pair-word ram first _ k _ _ _ (take_all _ _ (simp length-drop (omega arith))) (omega arith) (omega arith)
      (ap (λ l. get_or l k []) c.as_chunks.ensures.front) refl

  -- what the list is a part of
  rest : take (length ram - first) (drop first ram) ≡ drop first ram
  rest = take_all _ _ (simp length-drop (omega arith))

  -- past so many of them
  past : (i : ℕ) → i ≤ length pairs → AllWithin (λ p. stops (word p) ≡ false) pairs 0 i → Walked ram first (first + i * 2)
  past i l h =
      walked_past ram first (omega arith) i (omega arith) (λ k m. rw (read k (omega arith)) at (h k [] (omega arith) m))

pub returns-then-ram-ne-RAM : goal.returns-then-ram-ne-RAM
returns-then-ram-ne-RAM c = simp (answer-length c.args.ram.now c.args.start c.if-ram-ne-RAM.true)

pub returns-in-Some : goal.returns-in-Some
unfolding list_of
returns-in-Some c =
    let before = (goal.at.returns-in-Some c).After-position in
    let at = first before + c.in-Some.before * 2 in
    let f = rw c.in-Some.is at (found before) in
    let w = past before c.in-Some.before (omega (arith, f.0)) f.2 in
    let inside : at + 2 ≤ 65536 = omega (arith, f.0) in
    let stop = rw (read before _ f.0) at (f.1 []) in
    let size : (c.in-Some.before + 1) * 2 ≡ length (words_of (ram before) (first before)) * 2 = omega (arith, walked-bytes _ _ _ w inside stop) in
    simp (answer-served _ _ c.if-ram-ne-RAM.false (walked_stop _ _ _ w inside stop), rest before, size)

pub returns-in-None : goal.returns-in-None
returns-in-None c =
    let before = (goal.at.returns-in-None c).After-position in
    let w = past before _ (omega arith) (rw c.in-None.is at (found before)) in
    simp (answer-none _ c.args.start c.if-ram-ne-RAM.false (walked_end _ _ _ w (omega arith)))
