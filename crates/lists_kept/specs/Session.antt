-- 02, L12: calls from reset on, over which RAM and the places of the lists go from call to call and nobody else writes them.
use Rattle.std.specs.Prelude.{◌≡◌, List, ℕ, length}
use Rattle.runs.specs.World.{World, lent_ram, lent_slots}
use Rattle.runs.specs.Call.{Call, lend}
use Rattle.runs.specs.Run.{Made, Each}
use Rattle.runs.specs.Reached.{Reached}

-- a call before which the host lends neither another RAM nor other places of lists
pub record HandsRoom (c : Call) : Type 0 where
  pub ram : (l : List ℕ) → c ≡ lend (lent_ram l) → ⊥
  pub slots : (l : List ℕ) → c ≡ lend (lent_slots l) → ⊥

-- from the chip that reset gives, with any RAM and any 64 numbers for the places
pub record Session (begun : World) (log : List Made) (w : World) : Type 0 where
  pub reached : Reached begun log w
  pub hands : Each (λ m. HandsRoom m.asks) log
  pub places : length begun.lent.slots ≡ 64
