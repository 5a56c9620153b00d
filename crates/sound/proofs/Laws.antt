-- 01, "Sound", and 02, L6: a line costs at most 34 cycles, and a channel after a line depends on that channel and RAM alone.
use mathlib.Core.Path.{◌≡◌, refl, ap}
use mathlib.Core.List.{List, [], ◌∷◌}
use Prim.Native.Nat.{ℕ, zero, suc, ◌<◌, ◌≤◌}
use native.Mathlib.Omega.{arith}
use lib.ListN.{get_or}
use Rattle.words.specs.declared.WordKind.TheVariants.{Load, Pause, Repeat, Control, Nothing}
use Rattle.sound.specs.declared.Access.{Access}
use Rattle.sound.specs.declared.Access.TheVariants.{Off, On, PsgWrite}
use Rattle.sound.specs.declared.Accesses.{Accesses}
use Rattle.sound.specs.declared.Did.{Did}
use Rattle.sound.specs.declared.Did.TheVariants.{SatOut, Executed}
use Rattle.sound.specs.declared.Entry.{Entry}
use Rattle.sound.specs.declared.Sound.{Sound}
use Rattle.sound.specs.Line.{channel_after, did_on, disturbance, own_cycles, entry_of, off_channel, channel_of, did_of, entries_on, cycles_of, sound_after, sound_report}

-- the processor takes at most 2 cycles
pub two-at-most : (a : Access) → disturbance a ≤ 2
two-at-most Off = omega arith
two-at-most On = omega arith
two-at-most PsgWrite = omega arith

-- a LOAD with its fetch, met by a PSG register write, is the dearest
pub own-bound : (a : Access) (d : Did) → own_cycles a d ≤ 11
own-bound a SatOut = omega arith
own-bound a (Executed Load n) = omega (arith, two-at-most a)
own-bound a (Executed Pause n) = omega arith
own-bound a (Executed Repeat n) = omega arith
own-bound a (Executed Control n) = omega arith
own-bound a (Executed Nothing n) = omega arith

-- three LOADs and the dead cycle
pub cycles-bound : (a : Accesses) (es : List Entry) → cycles_of a es ≤ 34
cycles-bound a es =
    omega (arith, own-bound a.first (did_of es 0), own-bound a.second (did_of es 1), own-bound a.third (did_of es 2))

pub line-cycles : (ram : List ℕ) (a : Accesses) (s : Sound) → (sound_report ram a s).cycles ≤ 34
unfolding sound_report
line-cycles ram a s = cycles-bound a (entries_on ram s.channels)

-- the nth of three that are written out
of_three : {A : Type 0} (f : ℕ → A) (d : A) (n : ℕ) → n < 3 → get_or (f 0 ∷ f 1 ∷ f 2 ∷ []) n d ≡ f n
of_three f d zero h = refl
of_three f d (suc zero) h = refl
of_three f d (suc (suc zero)) h = refl
of_three f d (suc (suc (suc n))) h = absurd (omega arith)

-- channel n after a line, and what it did there
pub line-channel : (ram : List ℕ) (s : Sound) (n : ℕ) → n < 3 →
    channel_of (sound_after ram s).channels n ≡ channel_after ram (channel_of s.channels n)
unfolding sound_after
line-channel ram s n h = of_three (λ k. channel_after ram (channel_of s.channels k)) off_channel n h

pub line-did : (ram : List ℕ) (a : Accesses) (s : Sound) (n : ℕ) → n < 3 →
    did_of (sound_report ram a s).entries n ≡ did_on ram (channel_of s.channels n)
unfolding sound_report
line-did ram a s n h =
    ap (λ (e : Entry). e.did)
    (of_three (λ k. entry_of (did_on ram (channel_of s.channels k))) (entry_of SatOut) n h)
