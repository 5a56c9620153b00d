-- 02, L12: what the calls promise. Each changes nothing of the chip but its area and the handles in use.
use Rattle.std.specs.Prelude.{◌≡◌, List, ℕ}
use Rattle.lists.specs.Area.{area_of, area_answer}
use Rattle.lists.specs.Room.{place_at}
use Rattle.lists.specs.Place.{Placed, Places}
use Rattle.lists.specs.Remove.{remove_answer, without_list}
use Rattle.chip.specs.declared.Answered.{Answered}
use Rattle.chip.specs.declared.Chip.{Chip}
use Rattle.chip.specs.Promises.{Answers}
use Rattle.chip.specs.Editors.{lists_of, with_lists}
use Rattle.placing.specs.declared.PlacedList.{PlacedList}
use Rattle.placing.specs.InUse.{in_use_of}

-- giving the area, by its bounds
abbrev pub GivesArea : Chip → ℕ → ℕ → Answered → Type 0
GivesArea c from upto r = Answers (area_answer (lists_of c) from upto) (with_lists c (area_of from upto)) c r

-- placing: the part of the answer that the rule of lists is about, and that all else of the chip stays
abbrev pub placed_of : PlacedList → Placed
placed_of r = record { area = lists_of r.chip; answer = r.answer; address = r.address; handle = r.handle }

pub record PlacesList (c : Chip) (places ram list places' ram' : List ℕ) (r : PlacedList) : Type 0 where
  pub places-list : Places (lists_of c) places ram list places' ram' (placed_of r)
  pub rest : r.chip ≡ with_lists c (lists_of r.chip)

-- removing, by the handle
abbrev pub removal_answer : Chip → List ℕ → ℕ → ℕ
removal_answer c places handle = remove_answer (lists_of c) handle (in_use_of c.sound (place_at places handle))

abbrev pub RemovesList : Chip → List ℕ → ℕ → Answered → Type 0
RemovesList c places handle r = Answers (removal_answer c places handle) (with_lists c (without_list (lists_of c) handle)) c r
