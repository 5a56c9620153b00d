-- One line of a channel that plays: it executes its STOP with one line left, or it has one line less left and plays on.
use mathlib.Core.Path.{◌≡◌, refl, sym, ◌∙◌, subst}
use mathlib.Core.Bool.{Bool, true, false}
use mathlib.Core.List.{List}
use Prim.Native.Nat.{ℕ, suc, ◌+◌, ◌*◌}
use native.Mathlib.Omega.{arith}
use lib.Dec.{ltb}
use Rattle.common.specs.Choice.{if, both}
use Rattle.words.specs.Words.{kind_of, is_load, low12, stop_bit}
use Rattle.words.specs.declared.WordKind.{WordKind}
use Rattle.words.specs.declared.WordKind.TheVariants.{Load, Pause, Repeat, Control, Nothing}
use Rattle.sound.specs.declared.Access.{Access}
use Rattle.sound.specs.declared.Channel.{Channel}
use Rattle.sound.specs.declared.Did.{Did}
use Rattle.sound.specs.declared.Did.TheVariants.{SatOut, Executed}
use Rattle.sound.specs.declared.Turn.{Turn}
use Rattle.sound.specs.Channels.{word_at, with_pause, fetched, word_played, turn_of}
use Rattle.sound.specs.Line.{disturbance, own_cycles, channel_after, did_on}
use Rattle.words.specs.Words.{is_pause, is_control, stops, has_stop}
use Rattle.forecast.specs.Rule.{lines_of, cycles_of, words_of}
use Rattle.forecast.specs.Left.{waits, left, lines_left, cycles_left}
use Rattle.forecast.proofs.Playing.{Playing}
use Rattle.forecast.specs.Demand.{did_stop, Lent}
use Rattle.forecast.proofs.Moves.{moves}
use Rattle.forecast.proofs.Waits.{Counts, acts, sits, counts, turn-acts, turn-sits, word-lines}
use Rattle.forecast.proofs.WordPlays.{Passes, word-stops, word-passes}

-- the report of a word says whether it is a STOP, and its cycles
pub word-stop : (w : ℕ) → did_stop (Executed (kind_of w) (low12 w)) ≡ stops w
unfolding stops
word-stop w = by_kind (kind_of w)
  where
    by_kind : (k : WordKind) → did_stop (Executed k (low12 w)) ≡ both (is_control k) (stop_bit (low12 w))
    by_kind Load = refl
    by_kind Pause = refl
    by_kind Repeat = refl
    by_kind Control = refl
    by_kind Nothing = refl

pub word-cycles : (a : Access) (w : ℕ) → cycles_of a w ≡ own_cycles a (Executed (kind_of w) (low12 w))
unfolding cycles_of
word-cycles a w = by_kind (kind_of w)
  where
    by_kind : (k : WordKind) → if (is_load k) (9 + disturbance a) 2 ≡ own_cycles a (Executed k (low12 w))
    by_kind Load = refl
    by_kind Pause = refl
    by_kind Repeat = refl
    by_kind Control = refl
    by_kind Nothing = refl

-- a STOP takes one line
stop-line : (n w : ℕ) → stops w ≡ true → lines_of n w ≡ 1
unfolding stops lines_of
stop-line n w s = by_kind (kind_of w) s
  where
    by_kind :
        (k : WordKind) → both (is_control k) (stop_bit (low12 w)) ≡ true →
        if (both (is_pause k) (ltb 0 (low12 w))) (low12 w * (n + 1)) 1 ≡ 1
    by_kind Load e = refl
    by_kind Pause e = cc
    by_kind Repeat e = refl
    by_kind Control e = refl
    by_kind Nothing e = refl

-- a line on which a channel that plays executes its STOP, and one on which it doesn't and plays on
pub record Stops (ram : List ℕ) (c d : Channel) (r : Did) : Type 0 where
  pub stop : did_stop r ≡ true
  pub lines : lines_left ram c ≡ 1
  pub cycles : (a : Access) → cycles_left a ram c ≡ own_cycles a r
  pub enabled : d.enabled ≡ false

pub record Plays (ram : List ℕ) (start : ℕ) (c d : Channel) (r : Did) : Type 0 where
  pub stop : did_stop r ≡ false
  pub lines : lines_left ram c ≡ suc (lines_left ram d)
  pub cycles : (a : Access) → cycles_left a ram c ≡ own_cycles a r + cycles_left a ram d
  pub playing : Playing ram start d

pub data Line (ram : List ℕ) (start : ℕ) (c d : Channel) (r : Did) : Type 0 where
  stops-there : Stops ram c d r → Line ram start c d r
  plays-on : Plays ram start c d r → Line ram start c d r

-- a word leaves the prescale, and a STOP clears the enable
same-prescale : (c : Channel) (w : ℕ) → (word_played c w).channel.prescale ≡ c.prescale
unfolding fetched
same-prescale c w = rw moves

stop-clears : (c : Channel) (w : ℕ) → stops w ≡ true → (word_played c w).channel.enabled ≡ false
unfolding fetched
stop-clears c w s = rw (moves, s)

module _ (ram : List ℕ) (start : ℕ) (listed : has_stop (words_of ram start) ≡ true) (c : Channel) (p : Playing ram start c) where
  -- the channel with another pause and line count is as far in the list
  paused-there : (n q : ℕ) → Playing ram start (with_pause c n q)
  paused-there n q =
      record { enabled = p.enabled; passed = p.passed; place = p.place; within = p.within; since = p.since }

  module _ (q : ℕ) (none : waits c.prescale c.pause c.count ≡ 0) where
    -- the pause is over: a word is executed
    turn : Turn
    turn = word_played (with_pause c 0 q) (word_at ram c.address)

    act_stops : stops (word_at ram c.address) ≡ true → Stops ram c turn.channel turn.did
    unfolding turn left lines_left cycles_left
    act_stops s =
        record {
          stop = word-stop _ ∙ s;
          lines =
              omega
              (arith, none, word-stops ram start listed c p (lines_of c.prescale) s, stop-line c.prescale (word_at ram c.address) s);
          cycles = λ a. word-stops ram start listed c p (cycles_of a) s ∙ word-cycles a _;
          enabled = stop-clears _ _ s;
        }

    act_plays : stops (word_at ram c.address) ≡ false → Plays ram start c turn.channel turn.did
    unfolding turn left lines_left cycles_left
    act_plays s =
        let f : Passes ram start (word_at ram c.address) (with_pause c 0 q) turn.channel = word-passes ram start listed (with_pause c 0 q) (paused-there 0 q) s in
        record {
          stop = word-stop _ ∙ s;
          lines =
              rw (same-prescale (with_pause c 0 q) (word_at ram c.address))
              (omega (arith, none, f.falls (lines_of c.prescale), word-lines c.prescale (word_at ram c.address) (with_pause c 0 q) refl));
          cycles = λ a. f.falls (cycles_of a) ∙ rw word-cycles;
          playing = f.playing;
        }

    by-stop : (b : Bool) → stops (word_at ram c.address) ≡ b → Line ram start c turn.channel turn.did
    by-stop true s = stops-there (act_stops s)
    by-stop false s = plays-on (act_plays s)

  -- a line that a pause sits out
  sit_plays :
      (n q : ℕ) → waits c.prescale c.pause c.count ≡ suc (waits c.prescale (suc n) q) →
      Plays ram start c (with_pause c (suc n) q) SatOut
  unfolding left lines_left cycles_left
  sit_plays n q e =
      record { stop = refl; lines = omega arith; cycles = λ a. omega arith; playing = paused-there (suc n) q }

  -- the next word is the same in lent RAM
  same_word : (lent : List ℕ) → Lent ram start lent → word_at lent c.address ≡ word_at ram c.address
  same_word lent l = rw p.place (l.words p.passed p.within)

  -- one line, on RAM that has the list's words
  pub line-plays : (lent : List ℕ) → Lent ram start lent → Line ram start c (channel_after lent c) (did_on lent c)
  unfolding turn
  line-plays lent l = by_count (counts c p.enabled)
    where
      as_turn : (t : Turn) → turn_of lent c ≡ t → Line ram start c t.channel t.did → Line ram start c (channel_after lent c) (did_on lent c)
      as_turn t e h = subst (λ (t : Turn). Line ram start c t.channel t.did) (sym e) h

      by_count : Counts c → Line ram start c (channel_after lent c) (did_on lent c)
      by_count (acts q e z) =
          as_turn _ (turn-acts c p.enabled lent q e ∙ rw (same_word lent l)) (by-stop q z (stops (word_at ram c.address)) refl)
      by_count (sits n q e z) = as_turn _ (turn-sits c p.enabled lent n q e) (plays-on (sit_plays n q z))
