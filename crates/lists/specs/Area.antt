-- 02, L12: the area, its bounds, and which of the 64 handles have a list.
use Rattle.std.specs.Prelude.{◌≡◌, Bool, ℕ, Result, Ok, Err, ◌*◌, ◌/◌, ◌%◌, eqb, leb, ltb}
use Rattle.common.specs.declared.answer.Refusal.{Refusal}
use Rattle.common.specs.Answers.{done, wrong_area, served}
use Rattle.common.specs.Choice.{if, both, bit}
use Rattle.common.specs.Refusals.{number}
use Rattle.common.specs.Sizes.{ram_bytes}
use Rattle.lists.specs.declared.Area.{Area}

-- bounds as an area's have to be: even, the lower below the higher, the higher at most 65,536
unfoldable pub proper : ℕ → ℕ → Bool
proper from upto = both (eqb (from % 2) 0) (both (eqb (upto % 2) 0) (both (ltb from upto) (leb upto ram_bytes)))

-- the bounds of an area, which keeps the number of words below each
abbrev pub lower : Area → ℕ
lower area = area.from * 2

abbrev pub upper : Area → ℕ
upper area = area.upto * 2

-- an area stands if its bounds are as they have to be; after reset they are both 0
unfoldable pub standing : Area → Bool
standing area = proper (lower area) (upper area)

abbrev pub no_lists : Area
no_lists = record { from = 0; upto = 0; used = 0 }

-- whether a handle has a list
abbrev pub has : Area → ℕ → Bool
has area handle = bit handle area.used

-- the area with these bounds, with no list in it
abbrev pub area_of : ℕ → ℕ → Area
area_of from upto = record { from = from / 2; upto = upto / 2; used = 0 }

-- giving it: refused if one stands already, or the bounds are others than said
unfoldable pub area_answer : Area → ℕ → ℕ → ℕ
area_answer area from upto = if (standing area) wrong_area (if (proper from upto) done wrong_area)

-- what giving the area and removing a list give: the area after it, and the answer
pub record Changed : Type 0 where
  pub area : Area
  pub answer : ℕ

-- by the code's Result: refused, the area that was
abbrev pub told : Area → Result Area Refusal → Changed
told area (Ok after) = record { area = after; answer = done }
told area (Err refusal) = record { area = area; answer = number refusal }

pub record Gives (area : Area) (from upto : ℕ) (r : Changed) : Type 0 where
  pub answer : r.answer ≡ area_answer area from upto
  pub area-after : r.area ≡ served (area_answer area from upto) (area_of from upto) area
