-- Request L7, the reader: whether a file is a take, its count, offset, comment and records.
use Rattle.std.specs.Prelude.{◌≡◌, Bool, List, [], ◌∷◌, ℕ, zero, suc, ◌+◌, ◌-◌, ◌*◌, eqb, leb, ltb, length, get_or, take, drop}
use Rattle.common.specs.Choice.{if, both}
use Rattle.common.specs.Lists.{begins}
use Rattle.common.specs.Answers.{done, nothing_there, no_trailer, not_met, bad_record, served}
use Rattle.take.specs.Bytes.{number_of}
use Rattle.take.specs.Record.{unpacked, record_in, first_bad}
use Rattle.take.specs.File.{letters}
use Rattle.take.specs.declared.Record.{Record}

-- the last 12 bytes of a file, and the two numbers in them
abbrev pub trailer_of : List ℕ → List ℕ
trailer_of file = drop (length file - 12) file

abbrev pub count_of : List ℕ → ℕ
count_of file = number_of (take 4 (trailer_of file))

abbrev pub offset_of : List ℕ → ℕ
offset_of file = number_of (take 4 (drop 4 (trailer_of file)))

-- there are 12 bytes, and the letters are the last
unfoldable pub has_trailer : List ℕ → Bool
has_trailer file = both (leb 12 (length file)) (begins letters (drop 8 (trailer_of file)))

-- records from the offset on, as many as the count says, end where the trailer begins
unfoldable pub meets : List ℕ → Bool
meets file = eqb (offset_of file + 8 * count_of file) (length file - 12)

-- so many records of 8 bytes each
abbrev pub records_from : ℕ → List ℕ → List Record
records_from zero bytes = []
records_from (suc n) bytes = record_in bytes ∷ records_from n (drop 8 bytes)

unfoldable pub records_of : List ℕ → List Record
records_of file = records_from (count_of file) (drop (offset_of file) file)

-- no trailer, then a trailer that is not met
abbrev pub trailer_answer : List ℕ → ℕ
trailer_answer file = if (has_trailer file) (if (meets file) done not_met) no_trailer

-- then a bad record
unfoldable pub open_answer : List ℕ → ℕ
open_answer file = served (trailer_answer file) (if (eqb (first_bad (records_of file)) 0) done bad_record) (trailer_answer file)

-- opening a file: with a bad record its number from 1, else 0; count and offset where it is served, else 0
pub record Opening (file : List ℕ) (answer bad count offset : ℕ) : Type 0 where
  pub answered : answer ≡ open_answer file
  pub bad_number : bad ≡ if (eqb (open_answer file) bad_record) (first_bad (records_of file)) 0
  pub counted : count ≡ served (open_answer file) (count_of file) 0
  pub placed : offset ≡ served (open_answer file) (offset_of file) 0

-- the comment of a take, which is empty where opening is refused
unfoldable pub comment_of : List ℕ → List ℕ
comment_of file = served (open_answer file) (take (offset_of file) file) []

-- a file that is served, with this comment and these records
pub record Opens (file comment : List ℕ) (rs : List Record) : Type 0 where
  pub answered : open_answer file ≡ done
  pub counted : count_of file ≡ length rs
  pub placed : offset_of file ≡ length comment
  pub commented : comment_of file ≡ comment
  pub recorded : records_of file ≡ rs

-- a record by its number from 1: refused as opening is by the trailer, then where the take has none with that number; whether a record
-- is bad is not asked
unfoldable pub record_answer : List ℕ → ℕ → ℕ
record_answer file number =
    served (trailer_answer file) (if (both (leb 1 number) (leb number (count_of file))) done nothing_there) (trailer_answer file)

-- where it is refused, the record that is all 0, which has no kind
abbrev pub no_record : Record
no_record = unpacked 0

pub record ReadsRecord (file : List ℕ) (number answer : ℕ) (entry : Record) : Type 0 where
  pub answered : answer ≡ record_answer file number
  pub read : entry ≡ served (record_answer file number) (get_or (records_of file) (number - 1) no_record) no_record

-- the record in the 8 bytes from a place on; where fewer stand there, the record that is all 0
unfoldable pub record_from : List ℕ → ℕ → Record
record_from file at = if (ltb (length file) (at + 8)) no_record (record_in (drop at file))
