-- Serves only the code, which works out one address after another and puts three bytes each, in the contracts of private functions.
use Rattle.std.specs.Prelude.{◌≡◌, List, [], ◌∷◌, ◌++◌, ℕ, ◌+◌, ◌-◌, ◌*◌, ◌/◌, ◌%◌, ltb, take}
use Rattle.common.specs.Choice.{if}

-- address number k, without the list
unfoldable pub address_of : ℕ → ℕ
address_of k =
    if (ltb k 80) (0x6000 + k / 5 * 8 + k % 5)
    (if (ltb k 144) (0x6400 + (k - 80)) (if (ltb k 150) (0x6800 + (k - 144)) (0x6c00 + (k - 150) / 3 * 4 + (k - 150) % 3)))

-- three bytes put at a place
pub record PutsThree (at a v : ℕ) (before after : List ℕ) : Type 0 where
  pub front : take (at + 3) after ≡ take at before ++ a % 256 ∷ a / 256 ∷ v ∷ []
