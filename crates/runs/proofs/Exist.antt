-- Traces are not empty: every list of calls, each with the store and the places that the last one left, is that of one.
use mathlib.Core.Path.{◌≡◌, refl, sym, ◌∙◌, ap, subst}
use mathlib.Core.Bool.{Bool, true, false}
use mathlib.Core.List.{List, [], ◌∷◌}
use Prim.Native.Nat.{ℕ}
use Rattle.editors.specs.declared.Editor.{Editor}
use Rattle.editors.specs.Table.{same}
use Rattle.editors.proofs.Which.{Which, own, another, which, same_self, same-other}
use Rattle.chip.specs.declared.Chip.{Chip}
use Rattle.chip.specs.Reset.{Reset}
use Rattle.contents.specs.Widths.{Bytes}
use Rattle.runs.specs.World.{World, edited}
use Rattle.runs.specs.Call.{Call, Typed, world_after}
use Rattle.runs.specs.Sort.{sort_of, found, editor_in, on_edit, on_lend}
use Rattle.runs.specs.Run.{made_over, world_over}
use Rattle.runs.specs.Trace.{lent_on, handed_to, LentTo, handed_over, HandsOn, snapshots_over, Trace}
use Rattle.runs.proofs.Calls.{by_answer, other-places, AllPlaces}
use Rattle.runs.proofs.Views.{View, feeds, writes, undoes, steps, starts, lends, plain, view}
use Rattle.runs.proofs.Runs.{Every, every, each-made, Whole, lends-whole, run-possible}

-- nothing else is lent on the way
abbrev pub Kept : Call → Type 0
Kept c = on_lend (λ l. ⊥) (Unit {0}) c

abbrev pub AllKept : List Call → Type 0
AllKept cs = Every Kept cs

-- what an edit hands on is what is lent after it
edit_hands :
    {ed f : Editor} (w : World) (c : Chip) (store places : List ℕ) → Which ed f →
    handed_to (same ed f) (edited w f c store places) ed (lent_on w ed) ≡ lent_on (edited w f c store places) ed
edit_hands {ed} w c store places own = rw (same_self ed) refl
edit_hands {ed} w c store places another = rw (same-other ed, other-places w ed c store places) refl

stays-hands : {ed f : Editor} (w : World) → Which ed f → handed_to (same ed f) w ed (lent_on w ed) ≡ lent_on w ed
stays-hands {ed} w own = rw (same_self ed) refl
stays-hands {ed} w another = rw (same-other ed) refl

-- what a call hands on is what is lent after it
one-hands :
    (ed : Editor) (w : World) (c : Call) → View w c → Kept c →
    on_edit (λ f. handed_to (same ed f) (world_after w c) ed (lent_on w ed)) (lent_on w ed) c ≡ lent_on (world_after w c) ed
one-hands ed w c (feeds b l) k = refl
one-hands ed w c (writes f a b e) k =
    by_answer (λ v. handed_to (same ed f) v ed (lent_on w ed) ≡ lent_on v ed) w c (λ z. edit_hands w _ _ _ (which ed f)) (stays-hands w (which ed f))
one-hands ed w c (undoes f e) k =
    by_answer (λ v. handed_to (same ed f) v ed (lent_on w ed) ≡ lent_on v ed) w c (λ z. edit_hands w _ _ _ (which ed f)) (stays-hands w (which ed f))
one-hands ed w c (steps a l) k = rw l.sorts (by_answer (λ v. lent_on w ed ≡ lent_on v ed) w c (λ z. rw l.next) refl)
one-hands ed w c (starts o) k = refl
one-hands ed w c (lends l) k = absurd k
one-hands ed w c (plain s q l) k = rw s (by_answer (λ v. lent_on w ed ≡ lent_on v ed) w c (λ z. rw (l.store, l.places ed)) refl)

lent-here : (q : Bool) (w : World) (ed : Editor) → LentTo q w ed (lent_on w ed)
lent-here true w ed = refl
lent-here false w ed = refl

hands-here : (ed : Editor) (w : World) (c : Call) → on_edit (λ f. LentTo (same ed f) w ed (lent_on w ed)) (Unit {0}) c
hands-here ed w c = go (editor_in (sort_of c))
  where
    go : (fs : List Editor) → found (λ f. LentTo (same ed f) w ed (lent_on w ed)) (Unit {0}) fs
    go [] = tt
    go (f ∷ fs) = lent-here (same ed f) w ed

record Hands (ed : Editor) (w : World) (cs : List Call) : Type 0 where
  hands : HandsOn ed (made_over w cs) (lent_on w ed)
  last : lent_on (world_over w cs) ed ≡ handed_over ed (made_over w cs) (lent_on w ed)

all-hands : (ed : Editor) (cs : List Call) (w : World) → AllKept cs → Hands ed w cs
all-hands ed [] w k = record { hands = tt; last = refl }
all-hands ed (c ∷ cs) w k =
    let e = one-hands ed w c (view w c) k.0 in
    let rest = all-hands ed cs (world_after w c) k.1 in
    record {
      hands = (hands-here ed w c, subst (HandsOn ed (made_over (world_after w c) cs)) (sym e) rest.hands);
      last = rest.last ∙ ap (handed_over ed (made_over (world_after w c) cs)) (sym e);
    }

none_lent : (w : World) (c : Call) → Kept c → Whole c
none_lent w c k = lends-whole w c (λ l q. let lent : ⊥ = rw q at k in absurd lent)

pub traces_exist :
    (ed : Editor) (cs : List Call) (start : World) → Reset start.chip → Bytes start.lent.store →
    AllPlaces start → Every Typed cs → AllKept cs →
    Trace ed start (made_over start cs) (world_over start cs) (snapshots_over ed (made_over start cs) [])
traces_exist ed cs start fresh bytes full t k =
    let h = all-hands ed cs start k in
    record {
      reached = record { fresh = fresh; run = run-possible cs start full (every Kept Whole (none_lent start) cs k); typed = each-made Typed cs start t };
      bytes = bytes;
      hands = h.hands;
      lent-last = h.last;
      snapshots = refl;
    }
