-- The mute marks of two runs: the host alone writes them, in both alike.
use mathlib.Core.Path.{◌≡◌, refl, sym, ◌∙◌}
use mathlib.Core.Bool.{Bool, true, false}
use Prim.Native.Nat.{ℕ, ◌<◌}
use borrow.Author.Tests.{ltb-true}
use native.Mathlib.Omega.{arith}
use lib.Dec.{ltb}
use lib.ListN.{length}
use Rattle.common.specs.Answers.{done, nothing_there}
use Rattle.common.specs.Choice.{if}
use Rattle.chip.specs.Mute.{mute_answer, mute_set}
use Rattle.editors.specs.declared.Editor.{Editor}
use Rattle.runs.specs.World.{World, muted_of}
use Rattle.runs.specs.Call.{Call, mute, served_world, world_after}
use Rattle.runs.proofs.Calls.{by_answer}
use Rattle.runs.proofs.Opens.{differ}
use Rattle.runs.proofs.Pairs.{both-answer}
use Rattle.runs.proofs.Mutes.{mark_set, MuteView, mutes, stays, mute-view}
use Rattle.noninterference.specs.TwoRuns.{PageCall, reads, writes, undoes, SameMutes}

-- no call at all
abbrev pub NoCall : Call → Type 0
NoCall c = ⊥

abbrev Three : World → Type 0
Three w = length w.chip.sound.channels ≡ 3

-- a call that is no mute leaves them
by-view :
    (w : World) (c : Call) → ((w : World) (n : ℕ) → n < 3 → muted_of (served_world w c) n ≡ muted_of w n) → SameMutes w (world_after w c)
by-view w c f = by_answer (SameMutes w) w c (λ z n h. sym (f w n h)) (λ n h. refl)

no_mute :
    {c : Call} → MuteView c → ((n : ℕ) (on : Bool) → c ≡ mute n on → ⊥) →
    (w : World) (n : ℕ) → n < 3 → muted_of (served_world w c) n ≡ muted_of w n
no_mute (mutes k on) f = absurd (f k on refl)
no_mute (stays g) f = g

pub page_leaves : {e : Editor} (w : World) (c : Call) → PageCall e c → SameMutes w (world_after w c)
page_leaves w c (reads a bus) = by-view w c (no_mute (mute-view c) (λ n on q. differ cc))
page_leaves w c (writes a b) = by-view w c (no_mute (mute-view c) (λ n on q. differ cc))
page_leaves w c undoes = by-view w c (no_mute (mute-view c) (λ n on q. differ cc))

-- a channel that can be muted is one of three
below : (k : ℕ) → mute_answer k ≡ done → k < 3
unfolding mute_answer
below k z = go (ltb k 3) refl z
  where
    go : (t : Bool) → ltb k 3 ≡ t → if t done nothing_there ≡ done → k < 3
    go true e z = ltb-true k 3 e
    go false e z = absurd (omega arith)

pub marks-both : (w v : World) (c : Call) → Three w → Three v → SameMutes w v → SameMutes (world_after w c) (world_after v c)
unfolding mute_set
marks-both w v c p q s = go (mute-view c)
  where
    go : {c : Call} → MuteView c → SameMutes (world_after w c) (world_after v c)
    go (mutes k on) =
        both-answer SameMutes w v (mute k on) refl
        (λ z n h.
        mark_set w.chip.sound.channels k on n p (below k z) ∙ rw (s n h)
        (sym (mark_set v.chip.sound.channels k on n q (below k z))))
        s
    go {c} (stays f) = λ n h. sym (by-view w c f n h) ∙ s n h ∙ by-view v c f n h
