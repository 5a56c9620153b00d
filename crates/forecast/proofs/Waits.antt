-- The pause, line by line: an enabled channel sits out one of the lines that it waits, or waits no more and executes a word.
use mathlib.Core.Path.{◌≡◌, refl, ◌∙◌, ap}
use mathlib.Core.Bool.{Bool, true, false}
use mathlib.Core.List.{List}
use Prim.Native.Nat.{ℕ, zero, suc, ◌+◌, ◌-◌, ◌*◌}
use native.Mathlib.Omega.{arith}
use lib.Dec.{eqb, ltb, eqb-suc-zero}
use borrow.Author.Tests.{lt-ltb, ltb-true, ltb-false}
use Rattle.common.specs.Choice.{if, both}
use Rattle.words.specs.Words.{kind_of, low12}
use Rattle.sound.specs.declared.Channel.{Channel}
use Rattle.sound.specs.declared.Did.TheVariants.{SatOut}
use Rattle.sound.specs.Channels.{word_at, with_pause, pause_counted, active, fetched, word_played, turn_of}
use Rattle.words.specs.Words.{is_pause}
use Rattle.forecast.specs.Rule.{lines_of}
use Rattle.forecast.specs.Left.{waits}
use Rattle.forecast.proofs.Moves.{moves}

-- a channel that counts a line and acts, or counts one of the lines that it sits out
pub data Counts (c : Channel) : Type 0 where
  acts : (q : ℕ) → pause_counted c ≡ with_pause c 0 q → waits c.prescale c.pause c.count ≡ 0 → Counts c
  sits :
      (p q : ℕ) → pause_counted c ≡ with_pause c (suc p) q → waits c.prescale c.pause c.count ≡ suc (waits c.prescale (suc p) q) →
      Counts c

module _ (c : Channel) (on : c.enabled ≡ true) where
  by-pause : (p : ℕ) → c.pause ≡ p → Counts c
  unfolding pause_counted waits
  by-pause zero e =
      let stays : pause_counted c ≡ c = simp (on, e) in
      acts c.count (stays ∙ ap (λ p. with_pause c p c.count) e) (simp e)
  by-pause (suc p) e = by-prescale (ltb c.prescale (c.count + 1)) refl p e
    where
      less : (p : ℕ) → suc (suc p) - 1 ≡ suc p
      less p = omega arith

      by-prescale : (b : Bool) → ltb c.prescale (c.count + 1) ≡ b → (p : ℕ) → c.pause ≡ suc p → Counts c
      by-prescale true f zero e = acts 0 (simp (on, e, f)) (simp e (omega (arith, ltb-true)))
      by-prescale true f (suc p) e = sits p 0 (simp (on, e, f, lt-ltb 0 (suc (suc p)) (omega arith), less p)) (simp e (omega (arith, ltb-true)))
      by-prescale false f p e = sits p (c.count + 1) (simp (on, e, f, lt-ltb 0 (suc p) (omega arith))) (simp e (omega (arith, ltb-false)))

  pub counts : Counts c
  counts = by-pause c.pause refl

  is-active : (p q : ℕ) → active (with_pause c p q) ≡ eqb p 0
  unfolding active
  is-active p q = rw on

  -- the line of a channel that acts, and of one that sits out
  pub turn-acts : (ram : List ℕ) (q : ℕ) → pause_counted c ≡ with_pause c 0 q → turn_of ram c ≡ word_played (with_pause c 0 q) (word_at ram c.address)
  unfolding turn_of
  turn-acts ram q e = rw (e, is-active 0 q)

  pub turn-sits :
      (ram : List ℕ) (p q : ℕ) → pause_counted c ≡ with_pause c (suc p) q → turn_of ram c ≡ record { channel = with_pause c (suc p) q; did = SatOut }
  unfolding turn_of
  turn-sits ram p q e = rw (e, is-active (suc p) q, eqb-suc-zero)

-- the lines that a new pause waits, with that of its word
pause-lines : (n m : ℕ) → ltb 0 m ≡ true → m * (n + 1) ≡ suc (waits n m 0)
unfolding waits
pause-lines n zero e = cc
pause-lines n (suc m) e = omega arith

-- a word's lines: its own, and those that it makes the channel wait
pub word-lines :
    (n w : ℕ) (c : Channel) → c.pause ≡ 0 → lines_of n w ≡ suc (waits n (word_played c w).channel.pause (word_played c w).channel.count)
unfolding lines_of fetched waits
word-lines n w c z = rw moves (by-pause (is_pause (kind_of w)) (ltb 0 (low12 w)) refl)
  where
    by-pause : (p b : Bool) → ltb 0 (low12 w) ≡ b → if (both p b) (low12 w * (n + 1)) 1 ≡ suc (waits n (if (both p b) (low12 w) c.pause) (if (both p b) 0 c.count))
    by-pause true true e = pause-lines n (low12 w) e
    by-pause true false e = rw z
    by-pause false b e = rw z
