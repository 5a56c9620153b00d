-- Bytes stored in a lent buffer from a place on.
use Rattle.std.specs.Prelude.{◌≡◌, Bool, List, ℕ, ◌+◌, leb, length}
use Rattle.std.proofs.lemmas.List.Edits.{sets}
use Rattle.common.specs.Choice.{if}

-- bytes stored from a place on, and the place after them
pub record Puts (before : List ℕ) (at : ℕ) (bytes after : List ℕ) (next : ℕ) : Type 0 where
  pub place : next ≡ at + length bytes
  pub stored : after ≡ sets before at bytes

-- the same where all of them have room from there on; where they have not, none is stored and the place stays
abbrev pub has_room : List ℕ → ℕ → List ℕ → Bool
has_room before at bytes = leb (at + length bytes) (length before)

pub record PutsIfRoom (before : List ℕ) (at : ℕ) (bytes after : List ℕ) (next : ℕ) : Type 0 where
  pub place : next ≡ if (has_room before at bytes) (at + length bytes) at
  pub stored : after ≡ if (has_room before at bytes) (sets before at bytes) before
