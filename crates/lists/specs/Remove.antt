-- 02, L12: removing a list.
use Rattle.std.specs.Prelude.{◌≡◌, Bool, ℕ, ◌-◌, ◌^◌, ltb}
use Rattle.common.specs.Answers.{done, wrong_area, no_handle_answer, list_in_use, served}
use Rattle.common.specs.Choice.{if, both}
use Rattle.lists.specs.declared.Area.{Area}
use Rattle.lists.specs.Area.{standing, has, Changed}

-- a handle that has a list
unfoldable pub taken : Area → ℕ → Bool
taken area handle = both (ltb handle 64) (has area handle)

-- no area yet; no such handle; in use; in this order
unfoldable pub remove_answer : Area → ℕ → Bool → ℕ
remove_answer area handle playing = if (standing area) (if (taken area handle) (if playing list_in_use done) no_handle_answer) wrong_area

-- the area with one list less
abbrev pub without_list : Area → ℕ → Area
without_list area handle = record { from = area.from; upto = area.upto; used = area.used - 2 ^ handle }

pub record Removes (area : Area) (handle : ℕ) (playing : Bool) (r : Changed) : Type 0 where
  pub answer : r.answer ≡ remove_answer area handle playing
  pub area-after : r.area ≡ served (remove_answer area handle playing) (without_list area handle) area
