-- Cycles over line steps that meet different accesses, from those of the same reports with one access throughout.
use mathlib.Core.Path.{◌≡◌, refl, ◌∙◌}
use mathlib.Core.Bool.{true}
use mathlib.Core.List.{List, [], ◌∷◌}
use Prim.Native.Nat.{ℕ, ◌+◌, ◌≤◌}
use native.Mathlib.Omega.{arith}
use lib.ListN.{length, length-map, take}
use Rattle.common.proofs.Lists.{map-take}
use Rattle.words.specs.declared.WordKind.TheVariants.{Load, Pause, Repeat, Control, Nothing}
use Rattle.sound.specs.declared.Access.{Access}
use Rattle.sound.specs.declared.Access.TheVariants.{Off, On, PsgWrite}
use Rattle.sound.specs.declared.Did.{Did}
use Rattle.sound.specs.declared.Did.TheVariants.{SatOut, Executed}
use Rattle.sound.specs.Line.{disturbance, own_cycles, taken}
use Rattle.sound.proofs.Laws.{two-at-most}
use Rattle.forecast.specs.Demand.{LineStep, did_in, access_in, did_over, did_load, own_over, taken_over, LoadsMeet, Foretold}
use Rattle.forecast.proofs.Told.{own_meeting}
use Rattle.forecast.proofs.Plays.{Plain}

-- one line: its least cycles and what is taken; at most what a PSG register write makes of it
own_splits : (a : Access) (d : Did) → own_cycles a d ≡ own_cycles Off d + taken a d
own_splits a SatOut = refl
own_splits a (Executed Load n) = refl
own_splits a (Executed Pause n) = refl
own_splits a (Executed Repeat n) = refl
own_splits a (Executed Control n) = refl
own_splits a (Executed Nothing n) = refl

own-most : (a : Access) (d : Did) → own_cycles a d ≤ own_cycles PsgWrite d
own-most a SatOut = omega arith
own-most a (Executed Load n) = omega (arith, two-at-most a)
own-most a (Executed Pause n) = omega arith
own-most a (Executed Repeat n) = omega arith
own-most a (Executed Control n) = omega arith
own-most a (Executed Nothing n) = omega arith

-- a line whose LOAD, if it has one, meets this access
own_meeting_lem : (a b : Access) (d : Did) → (did_load d ≡ true → b ≡ a) → own_cycles b d ≡ own_cycles a d
own_meeting_lem a b SatOut h = refl
own_meeting_lem a b (Executed Load n) h = rw (h refl)
own_meeting_lem a b (Executed Pause n) h = refl
own_meeting_lem a b (Executed Repeat n) h = refl
own_meeting_lem a b (Executed Control n) h = refl
own_meeting_lem a b (Executed Nothing n) h = refl

-- only off the 8255 nothing is taken from a LOAD
only-off : (a : Access) → disturbance a ≡ 0 → a ≡ Off
only-off Off e = refl
only-off On e = absurd (omega arith)
only-off PsgWrite e = absurd (omega arith)

none-taken : (a : Access) (d : Did) → taken a d ≡ 0 → did_load d ≡ true → a ≡ Off
none-taken a SatOut e h = cc
none-taken a (Executed Load n) e h = only-off a e
none-taken a (Executed Pause n) e h = cc
none-taken a (Executed Repeat n) e h = cc
none-taken a (Executed Control n) e h = cc
none-taken a (Executed Nothing n) e h = cc

module _ (n : ℕ) where
  -- the same over the steps
  over_splits : (ss : List LineStep) → own_over n ss ≡ own_meeting Off (did_over n ss) + taken_over n ss
  unfolding own_over taken_over own_meeting
  over_splits [] = refl
  over_splits (s ∷ ss) = omega (arith, own_splits (access_in n s) (did_in n s), over_splits ss)

  over-most : (ss : List LineStep) → own_over n ss ≤ own_meeting PsgWrite (did_over n ss)
  unfolding own_over own_meeting
  over-most [] = omega arith
  over-most (s ∷ ss) = omega (arith, own-most (access_in n s) (did_in n s), over-most ss)

  over_meeting : (a : Access) (ss : List LineStep) → LoadsMeet a n ss → own_over n ss ≡ own_meeting a (did_over n ss)
  unfolding own_over own_meeting LoadsMeet
  over_meeting a [] h = refl
  over_meeting a (s ∷ ss) h =
      omega (arith, own_meeting_lem a (access_in n s) (did_in n s) h.0, over_meeting a ss h.1)

  over_none : (ss : List LineStep) → taken_over n ss ≡ 0 → LoadsMeet Off n ss
  unfolding taken_over LoadsMeet
  over_none [] e = tt
  over_none (s ∷ ss) e = (none-taken (access_in n s) (did_in n s) (omega arith), over_none ss (omega arith))

  -- demand 3 over one channel
  module _ (lines : ℕ) (cycles : Access → ℕ) (ss : List LineStep) (p : Plain lines cycles (did_over n ss)) where
    -- the steps through the STOP's
    abbrev part : List LineStep
    part = take lines ss

    many : lines ≤ length ss → lines ≤ length (did_over n ss)
    many h = rw (length-map ss (did_in n)) h

    paid : (a : Access) → lines ≤ length ss → own_meeting a (did_over n part) ≡ cycles a
    paid a h = rw (map-take (did_in n) lines ss) (p.told.cost a (many h))

    pub foretold : Foretold lines (cycles Off) (cycles PsgWrite) n ss
    foretold =
        record {
          stopped = rw (length-map ss (did_in n)) at p.told.stopped;
          first = λ h. p.first (rw (length-map ss (did_in n)) h);
          before = p.told.before;
          last = λ h. p.told.last (many h);
          cost = λ h. omega (arith, over_splits part, paid Off h);
          least = λ h. omega (arith, over_splits part, paid Off h);
          at_most = λ h. omega (arith, over-most part, paid PsgWrite h);
          undisturbed = λ h m. over_meeting Off part m ∙ paid Off h;
          only_so = λ h e. over_none part (omega (arith, over_splits part, paid Off h, e));
          met = λ h m. over_meeting PsgWrite part m ∙ paid PsgWrite h;
        }
