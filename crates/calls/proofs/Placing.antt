-- Laws of a list that is copied out of RAM and placed.
use mathlib.Core.Path.{◌≡◌, refl}
use mathlib.Core.List.{List, [], ◌∷◌, ◌++◌}
use Prim.Native.Nat.{ℕ, zero, suc, ◌+◌, ◌%◌, ◌<◌}
use native.Mathlib.Nat.{zero-add, add-zero, suc-add, add-suc}
use native.Mathlib.Numerals.{add-one}
use lib.ListN.{length, get_or, set, take}
use lib.Seq.{take-suc-set}
use Rattle.common.specs.Lists.{listed}
use Rattle.common.specs.Sizes.{ram_bytes}
use Rattle.placing.specs.declared.PlacedList.{PlacedList}
use Rattle.placing.specs.Contract.{PlacesList}
use Rattle.runs.specs.World.{World, roomed}
use Rattle.runs.specs.Call.{place, placed}
use Rattle.runs.specs.Run as run
use Rattle.runs.proofs.Calls.{Fixed, fixed}
use Rattle.calls.specs.Orders.{copied}

-- one element more, at the end of a list from a function
listed_more : (f : ℕ → ℕ) (i n : ℕ) → listed f i (suc n) ≡ listed f i n ++ f (i + n) ∷ []
listed_more f i zero = rw add-zero
listed_more f i (suc n) = rw (listed_more f (suc i) n, suc-add, add-suc)

-- none is copied
pub none-copied : (ram : List ℕ) (a : ℕ) → [] ≡ copied ram a 0
unfolding copied
none-copied ram a = refl

-- one byte more is copied
pub more-copied :
    (ram list : List ℕ) (a i v : ℕ) → i < length list → v ≡ get_or ram ((a + i) % ram_bytes) 0 → take i list ≡ copied ram a i →
    take (i + 1) (set list i v) ≡ copied ram a (i + 1)
unfolding copied
more-copied ram list a i v h w e =
    rw (add-one, take-suc-set, e, w, listed_more (λ (n : ℕ). get_or ram ((a + n) % ram_bytes) 0) 0 i, zero-add)

-- placing does what its promise says of the world
pub placing :
    (w : World) {list slots' ram' : List ℕ} {r : PlacedList} → PlacesList w.chip w.lent.slots w.lent.ram list slots' ram' r →
    Fixed w (place list) (record { answer = r.answer; told = placed r.address r.handle }) (roomed w r.chip ram' slots')
placing w {list} {slots'} {ram'} {r} k = fixed (run.place list slots' ram' r k)
