-- 02, L5: the export: for each writable register byte outside the pixels but DCSR its address and its contents.
use Rattle.std.specs.Prelude.{◌≡◌, List, [], ◌∷◌, ◌++◌, ℕ, zero, suc, ◌+◌, ◌/◌, ◌%◌, eqb, length}
use Rattle.common.specs.Answers.{done, wrong_length, served}
use Rattle.common.specs.Choice.{if}
use Rattle.common.specs.Sizes.{export_bytes}
use Rattle.chip.specs.declared.Chip.{Chip}
use Rattle.registers.specs.Address.{register_at}
use Rattle.contents.specs.Contents.{contents}

-- so many addresses, from this one on
abbrev pub up_from : ℕ → ℕ → List ℕ
up_from a zero = []
up_from a (suc n) = a ∷ up_from (suc a) n

-- so many groups of addresses, each of this many and so far from the one before
abbrev pub groups : ℕ → ℕ → ℕ → ℕ → List ℕ
groups a zero each far = []
groups a (suc n) each far = up_from a each ++ groups (a + far) n each far

-- the addresses in rising order: 5 of each sprite, magnification at its +4; the palette; 6800h to 6805h; 3 of each channel
unfoldable pub exported : List ℕ
exported = groups 0x6000 16 5 8 ++ up_from 0x6400 64 ++ up_from 0x6800 6 ++ groups 0x6c00 3 3 4

-- the bytes of some of them: address low, address high, contents. No pixel is among them, so no store is asked
unfoldable pub bytes_of : Chip → List ℕ → List ℕ
bytes_of c [] = []
bytes_of c (a ∷ rest) = a % 256 ∷ a / 256 ∷ contents c [] (register_at a) ∷ bytes_of c rest

-- a buffer of 477 bytes, 3 for each of 159 registers
unfoldable pub export_answer : ℕ → ℕ
export_answer size = if (eqb size export_bytes) done wrong_length

-- what the export promises
pub record Exports (c : Chip) (before after : List ℕ) (r : ℕ) : Type 0 where
  pub answer : r ≡ export_answer (length before)
  pub buffer : after ≡ served (export_answer (length before)) (bytes_of c exported) before
