-- Placing: the address that was found is in the area, or no address is.
use Rattle.std.proofs.Common.{◌≡◌, ℕ, ◌+◌, ◌<◌, ◌≤◌, List, length, set, true, arith}
use Rattle.common.specs.Answers.{done}
use Rattle.common.specs.Sizes.{ram_bytes}
use Rattle.common.specs.Storing.{PutsIfRoom}
use Rattle.common.proofs.Storing.{had-room}
use Rattle.lists.specs.Area.{lower, upper}
use Rattle.lists.specs.Room.{place_of, Fits, Lowest}
use Rattle.lists.specs.Place.{askable, FreeHandle, with_list, Places, placed}
use Rattle.lists.specs.Search.{Found}
use Rattle.lists.specs.declared.Area.{Area}
use Rattle.lists.proofs.Bounds.{askable-is}

module _ {area : Area} {places : List ℕ} {bytes a : ℕ} (found : Found area.used places bytes (lower area) a) where
  pub gapless : upper area < a + bytes → (b : ℕ) → Fits area places bytes b → ⊥
  gapless out b fits =
      omega (arith, found.lowest b fits.above (record { between = fits.between }), fits.below)

  pub lowest : a + bytes ≤ upper area → Lowest area places bytes a
  lowest inside =
      record {
        fits = record { even = found.even; above = found.above; below = omega arith; between = found.clear.between };
        lowest = λ b fits. omega (arith, found.lowest b fits.above (record { between = fits.between }));
      }

-- the list stored there
pub placed_at :
    {area : Area} {places ram list ram' : List ℕ} {handle a next : ℕ} → length ram ≡ ram_bytes → askable area (length list) ≡ true →
    FreeHandle area handle → Found area.used places (length list) (lower area) a → a + length list ≤ upper area →
    PutsIfRoom ram a list ram' next →
    Places area places ram list (set places handle (place_of a (length list))) ram'
    (record { area = with_list area handle; answer = done; address = a; handle = handle })
placed_at {area} {ram = ram} {list} {a = a} long ask free found inside put =
    let room : a + length list ≤ length ram = omega (arith, long, (askable-is area (length list) ask).proper.small) in
    rw (had-room put room).stored (placed long ask free (lowest found inside))
