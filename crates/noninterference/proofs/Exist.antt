-- The claim is not empty: a session begins with every start after reset, and whatever calls the other editor makes, with any others, there
-- are two such runs.
use mathlib.Core.Path.{◌≡◌, refl}
use mathlib.Core.List.{List, [], ◌∷◌, ◌++◌, map}
use Prim.Native.Nat.{ℕ, ◌<◌}
use native.Mathlib.Omega.{arith}
use Rattle.editors.specs.declared.Editor.{Editor}
use Rattle.editors.specs.declared.Editor.TheVariants.{Song, Picture}
use Rattle.editors.specs.declared.Owners.{Owners}
use Rattle.editors.specs.declared.Table.{Table}
use Rattle.editors.specs.Table.{other, holding}
use Rattle.chip.specs.Reset.{reset_chip}
use Rattle.chip.specs.Editors.{started}
use Rattle.chip.specs.Reset.{Reset}
use Rattle.runs.specs.World.{World, Loan}
use Rattle.runs.specs.Call.{Call, read, write, undo, start, remove, Typed, world_after}
use Rattle.runs.specs.Run.{Run, ended, on, Each, made_over, world_over}
use Rattle.runs.specs.Pair.{Beside, SameReplies}
use Rattle.runs.specs.Pair as pair
use Rattle.runs.proofs.Calls.{AllPlaces, possible}
use Rattle.runs.proofs.Opens.{differ}
use Rattle.runs.proofs.Runs.{Every, every, every-joined, each-made, WholeLoan, Whole, AllWhole, lends-whole, run-possible}
use Rattle.noninterference.specs.TwoRuns.{PageCall, reads, writes, undoes, Removal, removes, HostLoan, ram, slots, HandsOn, Fair, Session}

-- where no places are lent, 256 of them stay
host_whole : (l : Loan) → HostLoan l → WholeLoan l
host_whole l (ram x) = tt
host_whole l (slots x) = tt

pub all_whole : (w : World) (cs : List Call) → Every HandsOn cs → AllWhole cs
all_whole w cs h = every HandsOn Whole (λ c x. lends-whole w c (λ l q. host_whole l (x.lends l q))) cs h

-- ---- a session

start-hands : (o : Owners) → HandsOn (start o)
start-hands o = record { lends = λ l q. differ cc }

pub session-after :
    (o : Owners) (begun : World) → Reset begun.chip → AllPlaces begun →
    Session (holding o) (world_after begun (start o))
unfolding started reset_chip
session-after o begun fresh places =
    record {
      begun = begun;
      log = made_over begun (start o ∷ []);
      reached = record { fresh = fresh; run = on (possible begun (start o) places) ended; typed = (tt, tt) };
      hands = (start-hands o, tt);
      table = refl;
      held = refl;
      ivr = rw fresh.chip refl;
    }

-- ---- the other editor's calls are fair, whatever they are

not_itself : {A : Type 0} (e : Editor) → other e ≡ e → A
not_itself Song q = differ cc
not_itself Picture q = differ cc

pub theirs_fair : (t : Table) (e : Editor) (c : Call) → PageCall (other e) c → Typed c → Fair t e c
theirs_fair t e c (reads a bus) typed =
    record {
      typed = typed;
      reads = λ x y q. not_itself e cc;
      starts = λ o q. differ cc;
      hands = record { lends = λ l q. differ cc };
    }
theirs_fair t e c (writes a b) typed =
    record {
      typed = typed;
      reads = λ x y q. differ cc;
      starts = λ o q. differ cc;
      hands = record { lends = λ l q. differ cc };
    }
theirs_fair t e c undoes typed =
    record {
      typed = typed;
      reads = λ x y q. differ cc;
      starts = λ o q. differ cc;
      hands = record { lends = λ l q. differ cc };
    }

-- ---- two runs

-- two lists of calls that are the same but for those of one kind
pub data Alike (Theirs : Call → Type 0) : List Call → List Call → Type 0 where
  none : Alike Theirs [] []
  left : {c : Call} {cs ds : List Call} → Theirs c → Alike Theirs cs ds → Alike Theirs (c ∷ cs) ds
  right : {d : Call} {cs ds : List Call} → Theirs d → Alike Theirs cs ds → Alike Theirs cs (d ∷ ds)
  same : {c : Call} {cs ds : List Call} → Alike Theirs cs ds → Alike Theirs (c ∷ cs) (c ∷ ds)

-- the two runs of them from one world, with all that the claim asks
pub record Pair (t : Table) (e : Editor) (w : World) (cs ds : List Call) : Type 0 where
  pub first_run : Run w (made_over w cs) (world_over w cs)
  pub second_run : Run w (made_over w ds) (world_over w ds)
  pub first-fair : Each (λ m. Fair t e m.asks) (made_over w cs)
  pub second-fair : Each (λ m. Fair t e m.asks) (made_over w ds)
  pub beside : Beside (PageCall (other e)) (made_over w cs) (made_over w ds)
  pub removals : SameReplies Removal beside

beside-made : {Theirs : Call → Type 0} {cs ds : List Call} (w v : World) → Alike Theirs cs ds → Beside Theirs (made_over w cs) (made_over v ds)
beside-made w v none = pair.ended
beside-made w v (left {c = c} x a) = pair.first x (beside-made (world_after w c) v a)
beside-made w v (right {d = d} x a) = pair.second x (beside-made w (world_after v d) a)
beside-made w v (same {c = c} a) = pair.both refl (beside-made (world_after w c) (world_after v c) a)

-- no list is removed on the way, so no answer to that can differ
abbrev pub RemovesNone : Call → Type 0
RemovesNone c = Removal c → ⊥

none-removed :
    {Theirs : Call → Type 0} {cs ds : List Call} (w v : World) (a : Alike Theirs cs ds) → Every RemovesNone cs →
    SameReplies Removal (beside-made w v a)
unfolding beside-made
none-removed w v none h = tt
none-removed w v (left {c = c} x a) h = none-removed (world_after w c) v a h.1
none-removed w v (right {d = d} x a) h = none-removed w (world_after v d) a h
none-removed w v (same {c = c} a) h = (λ r. absurd (h.0 r), none-removed (world_after w c) (world_after v c) a h.1)

-- for any calls of the other editor, at any places in either run, and any others in both that remove no list
pub pairs_exist :
    (t : Table) (e : Editor) (w : World) (cs ds : List Call) → AllPlaces w → Alike (PageCall (other e)) cs ds → Every (Fair t e) cs →
    Every (Fair t e) ds → Every RemovesNone cs → Pair t e w cs ds
pairs_exist t e w cs ds places a f g n =
    let hands = every (Fair t e) HandsOn (λ c x. x.hands) in
    record {
      first_run = run-possible cs w places (all_whole w cs (hands cs f));
      second_run = run-possible ds w places (all_whole w ds (hands ds g));
      first-fair = each-made (Fair t e) cs w f;
      second-fair = each-made (Fair t e) ds w g;
      beside = beside-made w w a;
      removals = none-removed w w a n;
    }

-- such are any calls of the other editor before the same calls
same-calls : {Theirs : Call → Type 0} (hs : List Call) → Alike Theirs hs hs
same-calls [] = none
same-calls (h ∷ hs) = same (same-calls hs)

rights : {Theirs : Call → Type 0} (ds hs : List Call) → Every Theirs ds → Alike Theirs hs (ds ++ hs)
rights [] hs i = same-calls hs
rights (d ∷ ds) hs i = right i.0 (rights ds hs i.1)

lefts : {Theirs : Call → Type 0} (cs ds hs : List Call) → Every Theirs cs → Every Theirs ds → Alike Theirs (cs ++ hs) (ds ++ hs)
lefts [] ds hs h i = rights ds hs i
lefts (c ∷ cs) ds hs h i = left h.0 (lefts cs ds hs h.1 i)

-- a page call removes no list
pub no_removal : (c : Call) → ((handle : ℕ) → c ≡ remove handle → ⊥) → RemovesNone c
no_removal c f (removes handle) = f handle refl

page_call : (e : Editor) (c : Call) → PageCall e c → RemovesNone c
page_call e c (reads a bus) r = no_removal (read e a bus) (λ h q. differ cc) r
page_call e c (writes a b) r = no_removal (write e a b) (λ h q. differ cc) r
page_call e c undoes r = no_removal (undo e) (λ h q. differ cc) r

-- a page call of an editor with arguments of the call's types
pub record Theirs (e : Editor) (c : Call) : Type 0 where
  pub is : PageCall e c
  pub typed : Typed c

pub any_calls :
    (t : Table) (e : Editor) (w : World) (cs ds hs : List Call) → AllPlaces w → Every (Theirs (other e)) cs → Every (Theirs (other e)) ds →
    Every (Fair t e) hs → Every RemovesNone hs → Pair t e w (cs ++ hs) (ds ++ hs)
any_calls t e w cs ds hs places h i f n =
    let are = every (Theirs (other e)) (PageCall (other e)) (λ c x. x.is) in
    let fair = every (Theirs (other e)) (Fair t e) (λ c x. theirs_fair t e c x.is x.typed) in
    pairs_exist t e w (cs ++ hs) (ds ++ hs) places (lefts cs ds hs (are cs h) (are ds i)) (every-joined (Fair t e) cs hs (fair cs h) f)
    (every-joined (Fair t e) ds hs (fair ds i) f)
    (every-joined RemovesNone cs hs (every (Theirs (other e)) RemovesNone (λ c x. page_call (other e) c x.is) cs h) n)

-- two runs in which the other editor's every write differs: 0 in the one, 1 in the other, at any addresses
abbrev pub writes_of : Editor → ℕ → List ℕ → List Call
writes_of e b addresses = map (λ a. write e a b) addresses

abbrev pub Addresses : List ℕ → Type 0
Addresses [] = Unit {0}
Addresses (a ∷ ns) = (a < 65536) × Addresses ns

writes_theirs : (e : Editor) (b : ℕ) (ns : List ℕ) → b < 256 → Addresses ns → Every (Theirs e) (writes_of e b ns)
writes_theirs e b [] s h = tt
writes_theirs e b (a ∷ ns) s h = (record { is = writes a b; typed = (h.0, s) }, writes_theirs e b ns s h.1)

pub every-write-differs :
    (t : Table) (e : Editor) (w : World) (ns : List ℕ) (hs : List Call) → AllPlaces w → Addresses ns → Every (Fair t e) hs →
    Every RemovesNone hs → Pair t e w (writes_of (other e) 0 ns ++ hs) (writes_of (other e) 1 ns ++ hs)
every-write-differs t e w ns hs places h f n =
    any_calls t e w (writes_of (other e) 0 ns) (writes_of (other e) 1 ns) hs places (writes_theirs (other e) 0 ns (omega arith) h)
    (writes_theirs (other e) 1 ns (omega arith) h) f n
