-- The single pass over the words: for any cost of a word, what is summed up so far and what is ahead make the whole.
use mathlib.Core.Path.{◌≡◌, refl, sym}
use mathlib.Core.Bool.{Bool, true, false}
use mathlib.Core.List.{List, [], ◌∷◌}
use Prim.Native.Nat.{ℕ, ◌+◌, ◌*◌, ◌^◌, ◌≤◌, ◌<◌}
use native.Mathlib.Nat.{mul-le-mul}
use native.Mathlib.Omega.{arith}
use lib.Dec.{ltb}
use Rattle.common.specs.Choice.{if, both}
use Rattle.words.specs.Words.{kind_of, is_load, low12, loop_bit}
use Rattle.words.specs.declared.WordKind.{WordKind}
use Rattle.words.specs.declared.WordKind.TheVariants.{Load, Pause, Repeat, Control, Nothing}
use Rattle.sound.specs.declared.Access.{Access}
use Rattle.sound.specs.declared.Access.TheVariants.{Off, PsgWrite}
use Rattle.sound.specs.Line.{disturbance}
use Rattle.sound.proofs.Laws.{two-at-most}
use Rattle.sound.specs.Channels.{word_at}
use Rattle.forecast.specs.declared.Scan.{Scan}
use Rattle.forecast.specs.declared.Sums.{Sums}
use Rattle.words.specs.Words.{is_pause, is_repeat, is_control, repeats, loops, stops}
use Rattle.forecast.specs.Rule.{lines_of, cycles_of}
use Rattle.forecast.specs.Rule.{words_of, closes, open_count, total}
use Rattle.forecast.specs.Left.{ahead}
use Rattle.forecast.specs.Pass.{added, passed}
use Rattle.forecast.proofs.Ahead.{ahead-stop, ahead-plain, ahead-repeat, ahead-loop}
use Rattle.forecast.proofs.Words.{words-stop, words_more}
use Rattle.forecast.proofs.Walk.{Walked, walked_none, walked_more}

-- a choice stays below what both are below
if-le : (b : Bool) (x y n : ℕ) → x ≤ n → y ≤ n → if b x y ≤ n
if-le true x y n p q = p
if-le false x y n p q = q

-- a product is at most that of the bounds
pub times : {a b : ℕ} (m n : ℕ) → a ≤ m → b ≤ n → a * b ≤ m * n
times m n h k = mul-le-mul h k

-- a PAUSE is at most 4095 x 256 lines
pub pause-small : (w prescale : ℕ) → prescale < 256 → low12 w * (prescale + 1) ≤ 2 ^ 20
pause-small w prescale h =
    let t : low12 w * (prescale + 1) ≤ 4095 * 256 = times 4095 256 (omega arith) (omega arith) in
    omega arith

-- and so is any word; one of 9 cycles or 2 is far below
pub lines-small : (prescale w : ℕ) → prescale < 256 → lines_of prescale w ≤ 2 ^ 20
unfolding lines_of
lines-small prescale w h =
    let p : low12 w * (prescale + 1) ≤ 2 ^ 20 = pause-small w prescale h in
    let q : 1 ≤ 2 ^ 20 = omega arith in
    if-le (both (is_pause (kind_of w)) (ltb 0 (low12 w))) _ _ _ p q

pub cycles-small : (a : Access) (w : ℕ) → cycles_of a w ≤ 2 ^ 20
unfolding cycles_of
cycles-small a w =
    let p : 9 + disturbance a ≤ 2 ^ 20 = omega (arith, two-at-most a) in
    let q : 2 ≤ 2 ^ 20 = omega arith in
    if-le (is_load (kind_of w)) _ _ _ p q

-- the costs that one pass of a word can have
pub ruleset small = (lines-small, cycles-small)

-- a count stays one of 12 bits
open_small : (k w : ℕ) → k < 4096 → open_count k w < 4096
unfolding open_count
open_small k w h = by-step (repeats w) (loops w)
  where
    by-step : (r l : Bool) → if r (low12 w) (if l 0 k) < 4096
    by-step true l = omega arith
    by-step false true = omega arith
    by-step false false = h

-- a LOOP is no REPEAT
loop_no_repeat : (w : ℕ) → loops w ≡ true → repeats w ≡ false
unfolding loops repeats
loop_no_repeat w = by_kind (kind_of w)
  where
    by_kind : (k : WordKind) → both (is_control k) (loop_bit (low12 w)) ≡ true → is_repeat k ≡ false
    by_kind Load h = refl
    by_kind Pause h = refl
    by_kind Repeat h = sym h
    by_kind Control h = refl
    by_kind Nothing h = refl

module _ (cost : ℕ → ℕ) (ram : List ℕ) (first : ℕ) where
  -- at an address, with the open count k: what is paid and what is ahead, and room for the words to come
  pub record Summed (a k : ℕ) (s : Sums) : Type 0 where
    pub paid : s.total + ahead cost k s.since (words_of ram a) ≡ total cost 0 (words_of ram first)
    pub small : s.since ≤ a * 2 ^ 19
    pub bounded : s.total ≤ a * 2 ^ 46

  -- before the first word
  pub summed_none : (k : ℕ) (s : Sums) → k ≡ 0 → (s.total ≡ 0) × (s.since ≡ 0) → Summed first k s
  unfolding ahead
  summed_none k s z h = rw z (record { paid = rw (h.0, h.1) (by_closing (closes (words_of ram first))); small = omega arith; bounded = omega arith })
    where
      by_closing :
          (b : Bool) → 0 + (total cost 0 (words_of ram first) + if b (0 * 0) 0) ≡ total cost 0 (words_of ram first)
      by_closing true = omega arith
      by_closing false = omega arith

  module _ (a k : ℕ) (s : Sums) (i : Summed a k s) (inside : a + 2 ≤ 65536) where
    -- the word there, and those after it
    abbrev w : ℕ
    w = word_at ram a

    abbrev ws : List ℕ
    ws = words_of ram (a + 2)

    -- all that the list costs
    abbrev whole : ℕ
    whole = total cost 0 (words_of ram first)

    -- the STOP pays the rest
    pub summed_stop : stops w ≡ true → (added w k (cost w) s).total ≡ whole
    unfolding added
    summed_stop h =
        let paid : s.total + ahead cost k s.since (w ∷ []) ≡ whole = rw (words-stop ram a inside h) at i.paid in
        simp h (omega (arith, ahead-stop cost k s.since w [] h))

    -- any other word is one more
    pub summed_more :
        stops w ≡ false → k < 4096 → cost w ≤ 2 ^ 20 → Summed (a + 2) (open_count k w) (added w k (cost w) s)
    unfolding added open_count
    summed_more h n m = by-step (loops w) (repeats w) refl refl
      where
        paid : s.total + ahead cost k s.since (w ∷ ws) ≡ whole
        paid = rw (words_more ram a inside h) at i.paid

        again : k * (s.since + cost w) ≤ 4095 * 2 ^ 35
        again = times 4095 (2 ^ 35) (omega arith) (omega (arith, i.small))

        by-step : (l r : Bool) → loops w ≡ l → repeats w ≡ r → Summed (a + 2) (open_count k w) (added w k (cost w) s)
        by-step true r l e =
            let f : repeats w ≡ false = loop_no_repeat w l in
            simp (h, l, f)
            (record {
              paid = omega (arith, paid, ahead-loop cost k s.since w ws h l f);
              small = omega arith;
              bounded = omega (arith, again);
            })
        by-step false true l r =
            simp (h, l, r)
            (record {
              paid = omega (arith, paid, ahead-repeat cost k s.since w ws h l r);
              small = omega arith;
              bounded = omega arith;
            })
        by-step false false l r =
            simp (h, l, r)
            (record {
              paid = omega (arith, paid, ahead-plain cost k s.since w ws h l r);
              small = omega arith;
              bounded = omega arith;
            })

-- the pass at an address: the sums, and a count that a REPEAT can hold
pub record Scanned (ram : List ℕ) (prescale first a : ℕ) (s : Scan) : Type 0 where
  pub walked : Walked ram first a
  pub lines : Summed (lines_of prescale) ram first a s.count s.lines
  pub cycles : Summed (cycles_of Off) ram first a s.count s.cycles
  pub most : Summed (cycles_of PsgWrite) ram first a s.count s.most
  pub count : s.count < 4096

-- sums of nothing
abbrev NoneSummed : Sums → Type 0
NoneSummed s = (s.total ≡ 0) × (s.since ≡ 0)

module _ (ram : List ℕ) (prescale first : ℕ) where
  -- before the first word
  pub scanned_none :
      (s : Scan) → first ≤ 65536 →
      NoneSummed s.lines × (NoneSummed s.cycles × (NoneSummed s.most × (s.count ≡ 0))) → Scanned ram prescale first first s
  scanned_none s h n =
      record {
        walked = walked_none ram first h;
        lines = summed_none (lines_of prescale) ram first s.count s.lines n.1.1.1 n.0;
        cycles = summed_none (cycles_of Off) ram first s.count s.cycles n.1.1.1 n.1.0;
        most = summed_none (cycles_of PsgWrite) ram first s.count s.most n.1.1.1 n.1.1.0;
        count = omega (arith, n.1.1.1);
      }

  module _ (a : ℕ) (s : Scan) (i : Scanned ram prescale first a s) (inside : a + 2 ≤ 65536) where
    -- at the STOP the sums are whole
    pub scanned_stop :
        stops (word_at ram a) ≡ true →
        ((passed prescale (word_at ram a) s).lines.total ≡ total (lines_of prescale) 0 (words_of ram first))
        × ((passed prescale (word_at ram a) s).cycles.total ≡ total (cycles_of Off) 0 (words_of ram first))
        × ((passed prescale (word_at ram a) s).most.total ≡ total (cycles_of PsgWrite) 0 (words_of ram first))
    scanned_stop h = (
      summed_stop (lines_of prescale) ram first a s.count s.lines i.lines inside h,
      summed_stop (cycles_of Off) ram first a s.count s.cycles i.cycles inside h,
      summed_stop (cycles_of PsgWrite) ram first a s.count s.most i.most inside h,
    )

    -- at any other word
    pub scanned_more :
        prescale < 256 → stops (word_at ram a) ≡ false →
        Scanned ram prescale first (a + 2) (passed prescale (word_at ram a) s)
    scanned_more p h =
        record {
          walked = walked_more ram first a i.walked inside h;
          lines =
              summed_more (lines_of prescale) ram first a s.count s.lines i.lines inside h i.count
              (lines-small prescale (word_at ram a) p);
          cycles =
              summed_more (cycles_of Off) ram first a s.count s.cycles i.cycles inside h i.count
              (cycles-small Off (word_at ram a));
          most =
              summed_more (cycles_of PsgWrite) ram first a s.count s.most i.most inside h i.count
              (cycles-small PsgWrite (word_at ram a));
          count = open_small s.count (word_at ram a) i.count;
        }
