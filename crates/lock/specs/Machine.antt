-- The lock as the machine keeps it: the stage is how much of the sequence the last bytes are.
use Rattle.std.specs.Prelude.{◌≡◌, Bool, true, false, not, List, [], ◌∷◌, ℕ, ◌+◌, ◌-◌, eqb, leb, ltb, get_or}
use Rattle.common.specs.Choice.{if, both, either}
use Rattle.lock.specs.declared.Lock.{Lock}
use Rattle.lock.specs.History.{unlocked_by}

-- the bytes of the sequence, which the stages 2 to 15 wait for
abbrev pub key : List ℕ
key = 0xff ∷ 0x77 ∷ 0xb3 ∷ 0x51 ∷ 0xa8 ∷ 0xd4 ∷ 0x62 ∷ 0x39 ∷ 0x9c ∷ 0x46 ∷ 0x2b ∷ 0x15 ∷ 0x8a ∷ 0xcd ∷ []

-- the byte is the one that this stage waits for
abbrev pub goes_on : ℕ → ℕ → Bool
goes_on s b = both (both (leb 2 s) (ltb s 16)) (eqb b (get_or key (s - 2) 0))

-- the stages after a zero byte; stage 0 is also the one where no byte has come
abbrev pub after_zero : ℕ → Bool
after_zero s = either (eqb s 0) (eqb s 2)

-- a byte that doesn't go on may still begin the next attempt: one that isn't zero is its first byte, and a zero
-- after one that isn't zero is its second
abbrev pub begins : ℕ → ℕ → ℕ
begins s b = if (not (eqb b 0)) 1 (if (after_zero s) 0 2)

unfoldable pub next_stage : ℕ → ℕ → ℕ
next_stage s b = if (goes_on s b) (s + 1) (begins s b)

-- after the whole sequence any byte unlocks; a byte that isn't CD in CD's place locks
unfoldable pub fed : Lock → ℕ → Lock
fed l b =
    record {
      unlocked = if (eqb l.stage 16) true (if (both (eqb l.stage 15) (not (eqb b 0xcd))) false l.unlocked);
      stage = next_stage l.stage b;
    }

-- the lock after reset
abbrev pub reset_lock : Lock
reset_lock = record { unlocked = false; stage = 0 }

-- the lock after a history, newest byte first
unfoldable pub after : List ℕ → Lock
after [] = reset_lock
after (b ∷ h) = fed (after h) b

-- a lock that has been fed this history since reset: it is unlocked exactly as the patterns say
pub record Tracks (h : List ℕ) (l : Lock) : Type 0 where
  pub machine : l ≡ after h
  pub patterns : l.unlocked ≡ unlocked_by h

-- what `new` promises
pub record Fresh (r : Lock) : Type 0 where
  pub lock : r ≡ reset_lock
  pub tracks : Tracks [] r

-- what `feed` promises, of any lock and of one that tracks a history
pub record Fed (l : Lock) (b : ℕ) (r : Lock) : Type 0 where
  pub lock : r ≡ fed l b
  pub tracks : (h : List ℕ) → Tracks h l → Tracks (b ∷ h) r
