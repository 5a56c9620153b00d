-- Request L7: the file of a comment and records.
use Rattle.std.specs.Prelude.{List, [], ◌∷◌, ◌++◌, ℕ, ◌^◌, ◌<◌, length}
use Rattle.take.specs.Bytes.{bytes_of}
use Rattle.take.specs.Record.{AllWithin, record_bytes}
use Rattle.take.specs.declared.Record.{Record}

abbrev pub records_bytes : List Record → List ℕ
records_bytes [] = []
records_bytes (r ∷ rs) = record_bytes r ++ records_bytes rs

-- PLTK
abbrev pub letters : List ℕ
letters = 80 ∷ 76 ∷ 84 ∷ 75 ∷ []

-- the record count, the offset of the first record, and the letters
abbrev pub trailer : ℕ → ℕ → List ℕ
trailer count offset = bytes_of 4 count ++ bytes_of 4 offset ++ letters

-- the comment, the records after it, the trailer
unfoldable pub file_of : List ℕ → List Record → List ℕ
file_of comment rs = comment ++ records_bytes rs ++ trailer (length rs) (length comment)

-- the count and the offset fit their 4 bytes, and the records theirs
pub record Writable (comment : List ℕ) (rs : List Record) : Type 0 where
  pub count : length rs < 2 ^ 32
  pub offset : length comment < 2 ^ 32
  pub each : AllWithin rs
