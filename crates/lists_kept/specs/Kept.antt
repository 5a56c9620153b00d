-- 02, L12: what holds of the placed lists after every call of a session.
use Rattle.std.specs.Prelude.{◌≡◌, true, List, [], ◌∷◌, ◌⊎◌, ℕ, ◌+◌, ◌%◌, ◌<◌, ◌≤◌, eqb, length, get_or}
use Rattle.common.specs.Answers.{served}
use Rattle.common.specs.Choice.{if}
use Rattle.lists.specs.Area.{lower, upper, has}
use Rattle.lists.specs.Room.{start_of, end_of, place_at}
use Rattle.chip.specs.Editors.{lists_of}
use Rattle.runs.specs.World.{World}
use Rattle.runs.specs.Call.{Told, nothing, byte, vector, report, placed}
use Rattle.runs.specs.Sort.{on_place}
use Rattle.runs.specs.Run.{Made, Each}
use Rattle.lists_kept.specs.Session.{Session}

-- ---- a handle that has a list, and where that list starts and ends
pub record HasList (w : World) (k : ℕ) : Type 0 where
  pub handle : k < 64
  pub taken : has (lists_of w.chip) k ≡ true

abbrev pub start_at : World → ℕ → ℕ
start_at w k = start_of (place_at w.lent.slots k)

abbrev pub end_at : World → ℕ → ℕ
end_at w k = end_of (place_at w.lent.slots k)

-- ---- it lies in the area, and has an even start and an even length above 0
pub record Inside (w : World) (k : ℕ) : Type 0 where
  pub even-start : start_at w k % 2 ≡ 0
  pub even_end : end_at w k % 2 ≡ 0
  pub above : lower (lists_of w.chip) ≤ start_at w k
  pub some : start_at w k < end_at w k
  pub below : end_at w k ≤ upper (lists_of w.chip)

-- two lists have no byte in common
abbrev pub Disjoint : World → ℕ → ℕ → Type 0
Disjoint w j k = (end_at w j ≤ start_at w k) ⊎ (end_at w k ≤ start_at w j)

-- RAM has these bytes where the list is
pub record Holds (w : World) (k : ℕ) (bytes : List ℕ) : Type 0 where
  pub size : start_at w k + length bytes ≡ end_at w k
  pub same : (i : ℕ) → i < length bytes → get_or w.lent.ram (start_at w k + i) 0 ≡ get_or bytes i 0

-- ---- what was placed last under each handle, over the calls: a served placing tells its handle
abbrev pub handle_in : Told → ℕ
handle_in nothing = 0
handle_in (byte b) = 0
handle_in (vector v) = 0
handle_in (report r) = 0
handle_in (placed a h) = h

abbrev pub placed_by : Made → (ℕ → List ℕ) → ℕ → List ℕ
placed_by e f =
    on_place (λ list. served e.reply.answer (λ k. if (eqb k (handle_in e.reply.told)) list (f k)) f) f e.asks

abbrev pub placed_over : (ℕ → List ℕ) → List Made → ℕ → List ℕ
placed_over f [] = f
placed_over f (e ∷ es) = placed_over (placed_by e f) es

-- at reset nothing was
abbrev pub none_placed : ℕ → List ℕ
none_placed k = []

-- ---- the lists lie in the area, never overlap, and have in RAM the bytes that were placed
pub record ListsKept (w : World) (contents : ℕ → List ℕ) : Type 0 where
  pub inside : (k : ℕ) → HasList w k → Inside w k
  pub apart : (j k : ℕ) → HasList w j → HasList w k → (j ≡ k → ⊥) → Disjoint w j k
  pub holds : (k : ℕ) → HasList w k → Holds w k (contents k)

-- a call changes no byte of a list that stands before it
abbrev pub LeavesLists : Made → Type 0
LeavesLists e =
    (k : ℕ) → HasList e.before k → (i : ℕ) → start_at e.before k ≤ i → i < end_at e.before k →
    get_or e.after.lent.ram i 0 ≡ get_or e.before.lent.ram i 0

-- ---- so in every session
pub record KeepsLists : Type 0 where
  pub kept : {begun w : World} {log : List Made} → Session begun log w → ListsKept w (placed_over none_placed log)
  pub others : {begun w : World} {log : List Made} → Session begun log w → Each LeavesLists log
