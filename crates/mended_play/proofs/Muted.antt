-- 02, L13: why the mute mark has to be the same in both plays: a LOAD is heard of a channel, and is not where it is muted.
use mathlib.Core.Path.{◌≡◌, ap}
use mathlib.Core.Bool.{true, false}
use mathlib.Core.List.{List}
use Prim.Native.Nat.{ℕ}
use native.Mathlib.Omega.{arith}
use lib.ListN.{get_or, replicate}
use Rattle.words.specs.declared.WordKind.TheVariants.{Load}
use Rattle.sound.specs.declared.Did.{Did}
use Rattle.sound.specs.declared.Did.TheVariants.{Executed}
use Rattle.sound.specs.Channels.{with_mute}
use Rattle.sound.specs.Line.{off_channel, heard}

-- LOAD 7 38, and a PSG that is all 0
abbrev load : Did
load = Executed Load 0x738

abbrev silence : List ℕ
silence = replicate 16 0

pub needs_same-mark : heard (with_mute off_channel true) silence load ≡ heard (with_mute off_channel false) silence load → ⊥
needs_same-mark e = let z : ◌≡◌ {A = ℕ} 0 0x38 = ap (λ (l : List ℕ). get_or l 7 0) e in omega arith
