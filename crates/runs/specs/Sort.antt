-- A call by what claims over runs ask of it. A claim that treats most calls alike goes by these and not by the calls.
use Rattle.std.specs.Prelude.{List, [], ◌∷◌, ℕ}
use Rattle.editors.specs.declared.Editor.{Editor}
use Rattle.editors.specs.declared.Owners.{Owners}
use Rattle.sound.specs.declared.Accesses.{Accesses}
use Rattle.runs.specs.World.{Loan}
use Rattle.runs.specs.Call.{Call, bc, bd, gate, read, write, undo, ack, line, step, start, area, place, remove, mute, lend}

-- it feeds the lock a byte; writes a byte to an address of the page; takes a write back; steps a line; starts with a table; lends
-- another buffer; or, plain, does none of these
pub data Sort : Type 0 where
  feeds : ℕ → Sort
  writes : Editor → ℕ → ℕ → Sort
  undoes : Editor → Sort
  steps_line : Accesses → Sort
  starts : Owners → Sort
  lends : Loan → Sort
  plain : Sort

abbrev pub sort_of : Call → Sort
sort_of (bc b) = feeds b
sort_of (bd b) = plain
sort_of (gate b) = plain
sort_of (read e a bus) = plain
sort_of (write e a b) = writes e a b
sort_of (undo e) = undoes e
sort_of ack = plain
sort_of (line a n) = steps_line a
sort_of (step a) = steps_line a
sort_of (start o) = starts o
sort_of (area from upto) = plain
sort_of (place list) = plain
sort_of (remove handle) = plain
sort_of (mute n on) = plain
sort_of (lend l) = lends l

-- ---- one thing for the calls of one sort, and another for every other call

abbrev pub found {ℓ} : {A : Type ℓ} {B : Type 0} → (B → A) → A → List B → A
found f other [] = other
found f other (x ∷ xs) = f x

-- a line step
abbrev pub line_in : Sort → List Accesses
line_in (feeds b) = []
line_in (writes e a b) = []
line_in (undoes e) = []
line_in (steps_line a) = a ∷ []
line_in (starts o) = []
line_in (lends l) = []
line_in plain = []

abbrev pub on_line {ℓ} : {A : Type ℓ} → (Accesses → A) → A → Call → A
on_line f other c = found f other (line_in (sort_of c))

-- a buffer that is lent
abbrev pub lent_in : Sort → List Loan
lent_in (feeds b) = []
lent_in (writes e a b) = []
lent_in (undoes e) = []
lent_in (steps_line a) = []
lent_in (starts o) = []
lent_in (lends l) = l ∷ []
lent_in plain = []

abbrev pub on_lend {ℓ} : {A : Type ℓ} → (Loan → A) → A → Call → A
on_lend f other c = found f other (lent_in (sort_of c))

-- the editor of a page write or an undo, which change the store and that editor's places
abbrev pub editor_in : Sort → List Editor
editor_in (feeds b) = []
editor_in (writes e a b) = e ∷ []
editor_in (undoes e) = e ∷ []
editor_in (steps_line a) = []
editor_in (starts o) = []
editor_in (lends l) = []
editor_in plain = []

abbrev pub on_edit {ℓ} : {A : Type ℓ} → (Editor → A) → A → Call → A
on_edit f other c = found f other (editor_in (sort_of c))

-- the bytes of a list that is placed
abbrev pub list_in : Call → List (List ℕ)
list_in (bc b) = []
list_in (bd b) = []
list_in (gate b) = []
list_in (read e a bus) = []
list_in (write e a b) = []
list_in (undo e) = []
list_in ack = []
list_in (line a n) = []
list_in (step a) = []
list_in (start o) = []
list_in (area from upto) = []
list_in (place list) = list ∷ []
list_in (remove handle) = []
list_in (mute n on) = []
list_in (lend l) = []

abbrev pub on_place {ℓ} : {A : Type ℓ} → (List ℕ → A) → A → Call → A
on_place f other c = found f other (list_in c)
