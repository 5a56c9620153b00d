-- Histories in the order of writing, and whether the chip is unlocked after each.
use mathlib.Core.Path.{◌≡◌, refl}
use mathlib.Core.Bool.{true, false}
use mathlib.Core.List.{List, [], ◌∷◌, ◌++◌, map, reverse}
use Prim.Native.Nat.{ℕ}
use Rattle.lock.specs.History.{unlocked_by}

-- the first 13 bytes of the sequence
abbrev thirteen : List ℕ
thirteen = 0xff ∷ 0x77 ∷ 0xb3 ∷ 0x51 ∷ 0xa8 ∷ 0xd4 ∷ 0x62 ∷ 0x39 ∷ 0x9c ∷ 0x46 ∷ 0x2b ∷ 0x15 ∷ 0x8a ∷ []

abbrev pub histories : List (List ℕ)
histories =
    (1 ∷ 0 ∷ thirteen ++ (0xcd ∷ 0 ∷ []))
    -- the byte after CD is missing
    ∷ (1 ∷ 0 ∷ thirteen ++ (0xcd ∷ []))
    -- no byte that isn't zero comes first
    ∷ (0 ∷ thirteen ++ (0xcd ∷ 0 ∷ []))
    -- a zero in CD's place begins the next attempt
    ∷ (1 ∷ 0 ∷ thirteen ++ 0 ∷ thirteen ++ (0xcd ∷ 0 ∷ []))
    -- the zero after CD too, and that attempt locks again
    ∷ (1 ∷ 0 ∷ thirteen ++ 0xcd ∷ 0 ∷ thirteen ++ (1 ∷ []))
    ∷ []

pub examples : map (λ bytes. unlocked_by (reverse bytes)) histories ≡ true ∷ false ∷ false ∷ true ∷ false ∷ []
unfolding unlocked_by
examples = refl
