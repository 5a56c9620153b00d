-- The answer number of a page call: what is left to say once the store's length and the page have been seen to.
use mathlib.Core.Path.{◌≡◌, refl}
use mathlib.Core.Bool.{Bool, true, false}
use Prim.Native.Nat.{ℕ}
use native.Mathlib.Omega.{arith}
use lib.Dec.{eqb, leb, ltb}
use Rattle.common.specs.Choice.{if, both}
use Rattle.chip.specs.declared.Chip.{Chip}
use Rattle.page.specs.Page.{page_answer, read_answer}

-- the same over the two tests
abbrev through : Bool → Bool → ℕ → ℕ
through length page rest = if length (if page rest 2) 1

shut : (l p : Bool) (rest : ℕ) → (through l p 0 ≡ 0 → ⊥) → through l p 0 ≡ through l p rest
shut true true rest h = absurd (h refl)
shut true false rest h = refl
shut false p rest h = refl

open_to : (l p : Bool) (rest : ℕ) → through l p 0 ≡ 0 → through l p rest ≡ rest
open_to true true rest h = refl
open_to true false rest h = absurd (omega arith)
open_to false p rest h = absurd (omega arith)

module _ (c : Chip) (size a rest : ℕ) where
  abbrev inside : Bool
  inside = both (both (leb 0x4000 a) (ltb a 0x8000)) c.gate.mapped

  -- a read that is refused is refused with the same number whatever the rest says
  pub refused : (read_answer c size a ≡ 0 → ⊥) → read_answer c size a ≡ page_answer c size a rest
  unfolding page_answer read_answer
  refused h = shut (eqb size 4096) inside rest h

  -- where a read is served, the rest decides
  pub rest_decides : read_answer c size a ≡ 0 → page_answer c size a rest ≡ rest
  unfolding page_answer read_answer
  rest_decides h = open_to (eqb size 4096) inside rest h
