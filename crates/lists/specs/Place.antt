-- 02, L12: placing a list.
use Rattle.std.specs.Prelude.{◌≡◌, Bool, true, false, List, ℕ, Result, Ok, Err, ◌+◌, ◌-◌, ◌%◌, ◌^◌, ◌<◌, eqb, leb, ltb, length, set}
use Rattle.std.proofs.lemmas.List.Edits.{sets}
use Rattle.common.specs.declared.answer.Refusal.{Refusal}
use Rattle.common.specs.Answers.{done, wrong_length, wrong_area, all_placed_answer, no_gap_answer}
use Rattle.common.specs.Choice.{both}
use Rattle.common.specs.Refusals.{number}
use Rattle.common.specs.Sizes.{ram_bytes}
use Rattle.lists.specs.declared.Area.{Area}
use Rattle.lists.specs.declared.NewList.{NewList}
use Rattle.lists.specs.Area.{lower, upper, standing, has}
use Rattle.lists.specs.Room.{place_of, Fits, Lowest}

-- a list of so many bytes can be asked for: an area stands, and the length is above 0, even and no more than the area's
unfoldable pub askable : Area → ℕ → Bool
askable area bytes = both (standing area) (both (ltb 0 bytes) (both (eqb (bytes % 2) 0) (leb bytes (upper area - lower area))))

-- the lowest handle that is free
pub record FreeHandle (area : Area) (handle : ℕ) : Type 0 where
  pub below : handle < 64
  pub free : has area handle ≡ false
  pub lowest : (k : ℕ) → k < handle → has area k ≡ true

-- the area with one list more
abbrev pub with_list : Area → ℕ → Area
with_list area handle = record { from = area.from; upto = area.upto; used = area.used + 2 ^ handle }

-- what placing gives: the area after it, the answer, and where it is served the list's address and handle
pub record Placed : Type 0 where
  pub area : Area
  pub answer : ℕ
  pub address : ℕ
  pub handle : ℕ

-- refused, address and handle are 0
abbrev pub refused : ℕ → Area → Placed
refused number area = record { area = area; answer = number; address = 0; handle = 0 }

-- by the code's Result
abbrev pub told_placed : Area → Result NewList Refusal → Placed
told_placed area (Ok list) = record { area = list.area; answer = done; address = list.address; handle = list.handle }
told_placed area (Err refusal) = refused (number refusal) area

-- the refusals in their order, each only where none before it holds; served, the bytes are copied to the lowest address where the list
-- fits, under the lowest free handle, and no other byte of RAM and no other place changes
pub data Places (area : Area) (places ram list : List ℕ) : List ℕ → List ℕ → Placed → Type 0 where
  other_length : (length ram ≡ ram_bytes → ⊥) → Places area places ram list places ram (refused wrong_length area)
  not_askable : length ram ≡ ram_bytes → askable area (length list) ≡ false → Places area places ram list places ram (refused wrong_area area)
  all_placed :
      length ram ≡ ram_bytes → askable area (length list) ≡ true → ((k : ℕ) → k < 64 → has area k ≡ true) →
      Places area places ram list places ram (refused all_placed_answer area)
  no_gap :
      {handle : ℕ} → length ram ≡ ram_bytes → askable area (length list) ≡ true → FreeHandle area handle →
      ((a : ℕ) → Fits area places (length list) a → ⊥) → Places area places ram list places ram (refused no_gap_answer area)
  placed :
      {handle a : ℕ} → length ram ≡ ram_bytes → askable area (length list) ≡ true → FreeHandle area handle →
      Lowest area places (length list) a →
      Places area places ram list (set places handle (place_of a (length list))) (sets ram a list)
      (record { area = with_list area handle; answer = done; address = a; handle = handle })
