-- A list from a function, whether a list begins with another, and a test at words one after the other.
use Rattle.std.specs.Prelude.{Bool, true, false, List, [], ◌∷◌, ℕ, zero, suc, ◌+◌, eqb}
use Rattle.common.specs.Choice.{both, either}

-- what a function gives at n places from i on
abbrev pub listed : (ℕ → ℕ) → ℕ → ℕ → List ℕ
listed f i zero = []
listed f i (suc n) = f i ∷ listed f (suc i) n

-- whether the second list begins with the first
abbrev pub begins : List ℕ → List ℕ → Bool
begins [] l = true
begins (x ∷ xs) [] = false
begins (x ∷ xs) (y ∷ l) = both (eqb x y) (begins xs l)

-- whether a test holds of the address of one of n words from a on
unfoldable pub any_word : (ℕ → Bool) → ℕ → ℕ → Bool
any_word p zero a = false
any_word p (suc n) a = either (p a) (any_word p n (a + 2))
