-- 02, L12: what placing and removing promise: their equations; over every session from reset, that lists lie in the area, never overlap and
-- keep the bytes that were placed; and what the rule that a list in use can't be removed gives.
use Rattle.std.specs.Prelude.{List, ℕ}
use Rattle.chip.specs.declared.Answered.{Answered}
use Rattle.chip.specs.declared.Chip.{Chip}
use Rattle.placing.specs.declared.PlacedList.{PlacedList}
use Rattle.placing.specs.Contract.{PlacesList, RemovesList}
use Rattle.lists_kept.specs.Kept.{KeepsLists}
use Rattle.lists_kept.specs.InUse.{RuleKeeps}

pub record PlaceTold (c : Chip) (places ram list places' ram' : List ℕ) (r : PlacedList) : Type 0 where
  pub call : PlacesList c places ram list places' ram' r
  pub keeps : KeepsLists

pub record RemoveTold (c : Chip) (places : List ℕ) (handle : ℕ) (r : Answered) : Type 0 where
  pub call : RemovesList c places handle r
  pub rule : RuleKeeps
