-- A claim over two runs side by side, from what one call does to a view of two worlds.
use mathlib.Core.Path.{◌≡◌, refl, ap, sym, ◌∙◌}
use mathlib.Core.Bool.{Bool, true, false}
use mathlib.Core.List.{List, [], ◌∷◌}
use Prim.Native.Nat.{ℕ, zero, suc}
use native.Mathlib.Omega.{arith}
use borrow.Author.Tests.{eqb-true}
use lib.Dec.{eqb}
use lib.ListN.{length, get_or, set}
use Rattle.common.specs.Answers.{done}
use Rattle.common.specs.Choice.{if}
use Rattle.common.proofs.Tests.{clash}
use Rattle.runs.specs.World.{World}
use Rattle.runs.specs.Call.{Call, answer_to, reply_to, served_world, world_after}
use Rattle.runs.specs.Run.{Made, Run, Each}
use Rattle.runs.specs.Run as run
use Rattle.runs.specs.Pair.{Beside, ended, first, second, both, SameReplies, Throughout}
use Rattle.runs.proofs.Calls.{fixed}

-- what is to be shown of single calls: `Asked` is what is asked of each call of both runs and the world before it, `View` what two worlds
-- have in common, `Theirs` the calls in which the runs differ, `Given` those whose replies are the same by premise, `Ours` those whose
-- replies are compared
pub record Local (Asked : World → Call → Type 0) (View : World → World → Type 0) (Theirs Given Ours : Call → Type 0) : Type 0 where
  pub theirs_first : (w v : World) (c : Call) → Theirs c → Asked w c → View w v → View (world_after w c) v
  pub theirs_second : (w v : World) (c : Call) → Theirs c → Asked v c → View w v → View w (world_after v c)
  pub on_both :
      (w v : World) (c : Call) → Asked w c → Asked v c → (Given c → reply_to w c ≡ reply_to v c) → View w v →
      View (world_after w c) (world_after v c)
  pub replies : (w v : World) (c : Call) → Ours c → Asked w c → Asked v c → View w v → reply_to w c ≡ reply_to v c

pub record Agree {Theirs : Call → Type 0} {es fs : List Made} (View : World → World → Type 0) (Ours : Call → Type 0)
    (w v : World) (b : Beside Theirs es fs) : Type 0 where
  pub views : Throughout View w v b
  pub same : SameReplies Ours b

module _ {Asked : World → Call → Type 0} {View : World → World → Type 0} {Theirs Given Ours : Call → Type 0}
    (l : Local Asked View Theirs Given Ours) where
  pub side_by_side :
      {w v w' v' : World} {es fs : List Made} (b : Beside Theirs es fs) → Run w es w' → Run v fs v' →
      Each (λ e. Asked e.before e.asks) es → Each (λ e. Asked e.before e.asks) fs → SameReplies Given b → View w v →
      Agree View Ours w v b
  side_by_side ended run.ended run.ended h i j s = record { views = s; same = tt }
  side_by_side {v = y} (first t rest) (run.on {w} {v} {c = c} k more) q h i j s =
      let n : View v y = rw (fixed k).world_is (l.theirs_first w y c t h.0 s) in
      let a = side_by_side rest more q h.1 i j n in
      record { views = (s, a.views); same = a.same }
  side_by_side {w = x} (second t rest) q (run.on {w} {v} {c = c} k more) h i j s =
      let n : View x v = rw (fixed k).world_is (l.theirs_second x w c t i.0 s) in
      let a = side_by_side rest q more h i.1 j n in
      record { views = (s, a.views); same = a.same }
  side_by_side (both p rest) (run.on {w} {v} {c = c} {r = r} k more) (run.on {w = x} {v = y} {c = d} {r = q} m others) h i j s =
      let asked : Asked x c = rw p i.0 in
      let given : Given c → reply_to w c ≡ reply_to x c = λ g. sym (fixed k).reply-is ∙ j.0 g ∙ rw p (fixed m).reply-is in
      let n : View v y = rw ((fixed k).world_is, (fixed m).world_is, ← p) (l.on_both w x c h.0 asked given s) in
      let a = side_by_side rest more others h.1 i.1 j.1 n in
      let told : Ours c → r ≡ q = λ o. rw ((fixed k).reply-is, (fixed m).reply-is, ← p) (l.replies w x c o h.0 asked s) in
      record { views = (s, a.views); same = (told, a.same) }

-- a call with the same answer on both
pub both-answer :
    (P : World → World → Type 0) (w v : World) (c : Call) → answer_to w c ≡ answer_to v c →
    (answer_to w c ≡ done → P (served_world w c) (served_world v c)) → P w v → P (world_after w c) (world_after v c)
both-answer P w v c same f g = go (eqb (answer_to w c) done) (eqb (answer_to v c) done) refl (ap (λ n. eqb n done) same)
  where
    go : (i j : Bool) → eqb (answer_to w c) done ≡ i → eqb (answer_to w c) done ≡ j → P (if i (served_world w c) w) (if j (served_world v c) v)
    go true true h k = f (eqb-true _ _ h)
    go true false h k = absurd (clash h k)
    go false true h k = absurd (clash k h)
    go false false h k = g

-- one place set in two lists of one length: what holds of the elements at a place, and of the two that are put, holds there afterwards
pub both-set :
    {A : Type 0} (R : A → A → Type 0) (l m : List A) (n k : ℕ) (y z d : A) → length l ≡ length m → R (get_or l k d) (get_or m k d) →
    (k ≡ n → R y z) → R (get_or (set l n y) k d) (get_or (set m n z) k d)
both-set R [] [] n k y z d s e h = e
both-set R [] (b ∷ m) n k y z d s e h = absurd (omega arith)
both-set R (a ∷ l) [] n k y z d s e h = absurd (omega arith)
both-set R (a ∷ l) (b ∷ m) zero zero y z d s e h = h refl
both-set R (a ∷ l) (b ∷ m) zero (suc k) y z d s e h = e
both-set R (a ∷ l) (b ∷ m) (suc n) zero y z d s e h = e
both-set R (a ∷ l) (b ∷ m) (suc n) (suc k) y z d s e h = both-set R l m n k y z d (omega arith) e (λ q. h (ap suc q))
