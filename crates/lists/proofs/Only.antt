-- Placing has no two outcomes: what is asked fixes the answer, the address, the handle, the places and RAM. And refused it changes nothing.
use Rattle.std.proofs.Common.{◌≡◌, ℕ, ◌≤◌, List, refl, arith}
use Rattle.common.specs.Answers.{done}
use Rattle.common.proofs.Order.{either_side}
use Rattle.common.proofs.Tests.{clash}
use Rattle.lists.specs.Room.{Lowest}
use Rattle.lists.specs.Place.{FreeHandle, Placed, Places, other_length, not_askable, all_placed, no_gap, placed}
use Rattle.lists.specs.declared.Area.{Area}

-- two outcomes that agree in all that placing changes or answers
pub record Same (p p' m m' : List ℕ) (r r' : Placed) : Type 0 where
  pub places : p ≡ p'
  pub ram : m ≡ m'
  pub result : r ≡ r'

-- one lowest handle, and one lowest address
not_below : {area : Area} {h k : ℕ} → FreeHandle area h → FreeHandle area k → k ≤ h
not_below {h = h} {k} f g = either_side h k (λ w. absurd (clash (g.lowest h w) f.free)) (λ w. w)

one-handle : {area : Area} {h k : ℕ} → FreeHandle area h → FreeHandle area k → h ≡ k
one-handle f g = omega (arith, not_below g f, not_below f g)

one_address : {area : Area} {places : List ℕ} {bytes a b : ℕ} → Lowest area places bytes a → Lowest area places bytes b → a ≡ b
one_address f g = omega (arith, f.lowest _ g.fits, g.lowest _ f.fits)

pub only :
    {area : Area} {places ram list p p' m m' : List ℕ} {r r' : Placed} → Places area places ram list p m r →
    Places area places ram list p' m' r' → Same p p' m m' r r'
only (other_length long) (other_length long') = record { places = refl; ram = refl; result = refl }
only (other_length long) (not_askable long' ask') = absurd (long long')
only (other_length long) (all_placed long' ask' all') = absurd (long long')
only (other_length long) (no_gap long' ask' free' none') = absurd (long long')
only (other_length long) (placed long' ask' free' low') = absurd (long long')
only (not_askable long ask) (other_length long') = absurd (long' long)
only (not_askable long ask) (not_askable long' ask') = record { places = refl; ram = refl; result = refl }
only (not_askable long ask) (all_placed long' ask' all') = absurd (clash ask' ask)
only (not_askable long ask) (no_gap long' ask' free' none') = absurd (clash ask' ask)
only (not_askable long ask) (placed long' ask' free' low') = absurd (clash ask' ask)
only (all_placed long ask all) (other_length long') = absurd (long' long)
only (all_placed long ask all) (not_askable long' ask') = absurd (clash ask ask')
only (all_placed long ask all) (all_placed long' ask' all') = record { places = refl; ram = refl; result = refl }
only (all_placed long ask all) (no_gap long' ask' free' none') = absurd (clash (all _ free'.below) free'.free)
only (all_placed long ask all) (placed long' ask' free' low') = absurd (clash (all _ free'.below) free'.free)
only (no_gap long ask free none) (other_length long') = absurd (long' long)
only (no_gap long ask free none) (not_askable long' ask') = absurd (clash ask ask')
only (no_gap long ask free none) (all_placed long' ask' all') = absurd (clash (all' _ free.below) free.free)
only (no_gap long ask free none) (no_gap long' ask' free' none') = record { places = refl; ram = refl; result = refl }
only (no_gap long ask free none) (placed long' ask' free' low') = absurd (none _ low'.fits)
only (placed long ask free low) (other_length long') = absurd (long' long)
only (placed long ask free low) (not_askable long' ask') = absurd (clash ask ask')
only (placed long ask free low) (all_placed long' ask' all') = absurd (clash (all' _ free.below) free.free)
only (placed long ask free low) (no_gap long' ask' free' none') = absurd (none' _ low.fits)
only (placed {handle = h} {a = a} long ask free low) (placed {handle = h'} {a = a'} long' ask' free' low') =
    let e : h ≡ h' = one-handle free free' in
    let f : a ≡ a' = one_address low low' in
    record { places = cc; ram = cc; result = cc }

-- a refusal leaves area, places and RAM
pub record Keeps (area area' : Area) (p p' m m' : List ℕ) : Type 0 where
  pub area-stays : area' ≡ area
  pub places : p' ≡ p
  pub ram : m' ≡ m

pub refused-keeps :
    {area : Area} {places ram list p m : List ℕ} {r : Placed} → Places area places ram list p m r → (r.answer ≡ done → ⊥) →
    Keeps area r.area places p ram m
refused-keeps (other_length long) no_zero = record { area-stays = refl; places = refl; ram = refl }
refused-keeps (not_askable long ask) no_zero = record { area-stays = refl; places = refl; ram = refl }
refused-keeps (all_placed long ask all) no_zero = record { area-stays = refl; places = refl; ram = refl }
refused-keeps (no_gap long ask free none) no_zero = record { area-stays = refl; places = refl; ram = refl }
refused-keeps (placed long ask free low) no_zero = absurd (no_zero refl)
