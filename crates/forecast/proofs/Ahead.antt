-- What is ahead, word by word: one law for each kind of word, for any cost.
use mathlib.Core.Path.{◌≡◌}
use mathlib.Core.Bool.{Bool, true, false}
use mathlib.Core.List.{List, [], ◌∷◌}
use Prim.Native.Nat.{ℕ, ◌+◌, ◌*◌}
use native.Mathlib.Omega.{arith}
use Rattle.common.specs.Choice.{if}
use Rattle.words.specs.Words.{low12}
use Rattle.words.specs.Words.{repeats, loops, stops}
use Rattle.forecast.specs.Rule.{closes, open_count, passes, total}
use Rattle.forecast.specs.Left.{ahead}

module _ (cost : ℕ → ℕ) (k since w : ℕ) (ws : List ℕ) where
  -- a STOP ends the list
  pub ahead-stop : stops w ≡ true → ahead cost k since (w ∷ []) ≡ cost w
  unfolding ahead total passes closes
  ahead-stop e = simp e (omega arith)

  -- a word that is no STOP, LOOP or REPEAT is one more since the mark
  pub ahead-plain :
      stops w ≡ false → loops w ≡ false → repeats w ≡ false → ahead cost k since (w ∷ ws) ≡ cost w + ahead cost k (since + cost w) ws
  unfolding ahead total passes closes open_count
  ahead-plain s l r = simp (s, l, r) (by_closing (closes ws))
    where
      by_closing : (b : Bool) → if b (k + 1) 1 * cost w + total cost k ws + if b (k * since) 0 ≡ cost w + (total cost k ws + if b (k * (since + cost w)) 0)
      by_closing true = omega arith
      by_closing false = omega arith

  -- a REPEAT sets the count, and the mark after it
  pub ahead-repeat :
      stops w ≡ false → loops w ≡ false → repeats w ≡ true → ahead cost k since (w ∷ ws) ≡ cost w + ahead cost (low12 w) 0 ws
  unfolding ahead total passes closes open_count
  ahead-repeat s l r = simp (s, l, r) (by_closing (closes ws))
    where
      by_closing : (b : Bool) → 1 * cost w + total cost (low12 w) ws + 0 ≡ cost w + (total cost (low12 w) ws + if b (low12 w * 0) 0)
      by_closing true = omega arith
      by_closing false = omega arith

  -- a LOOP goes back over the words since the mark, itself with them, and closes the count
  pub ahead-loop :
      stops w ≡ false → loops w ≡ true → repeats w ≡ false → ahead cost k since (w ∷ ws) ≡ cost w + k * (since + cost w) + ahead cost 0 0 ws
  unfolding ahead total passes closes open_count
  ahead-loop s l r = simp (s, l, r) (by_closing (closes ws))
    where
      by_closing : (b : Bool) → (k + 1) * cost w + total cost 0 ws + k * since ≡ cost w + k * (since + cost w) + (total cost 0 ws + if b (0 * 0) 0)
      by_closing true = omega arith
      by_closing false = omega arith

-- what is ahead with the counter at 0 is the whole cost, wherever the mark
pub ahead-total : (cost : ℕ → ℕ) (s : ℕ) (ws : List ℕ) → ahead cost 0 s ws ≡ total cost 0 ws
unfolding ahead
ahead-total cost s ws = by_closing (closes ws)
  where
    by_closing : (b : Bool) → total cost 0 ws + if b (0 * s) 0 ≡ total cost 0 ws
    by_closing true = omega arith
    by_closing false = omega arith
