-- Serves only the code's own parts, in the contracts of private functions. No public promise cites it.
use Rattle.std.specs.Prelude.{◌≡◌, ◌≢◌, Bool, true, false, List, ℕ, Option, None, Some, Result, Ok, Err, ◌+◌, ◌*◌, ◌^◌, ◌<◌, eqb, leb, ltb, length, get_or}
use Rattle.common.specs.Choice.{if, both}
use Rattle.common.specs.Answers.{done, bad_record, no_room}
use Rattle.common.specs.Refusals.{number}
use Rattle.common.specs.declared.answer.Refusal.{Refusal}
use Rattle.take.specs.Record.{first_bad}
use Rattle.take.specs.Open.{has_trailer, meets, trailer_answer, count_of, offset_of, no_record, ReadsRecord}
use Rattle.take.specs.declared.Record.{Record}
use Rattle.take.specs.declared.trailer.Ends.{Ends}

-- a file with so many records from an offset on has the room, and its count and offset fit their 4 bytes
unfoldable pub fitting : ℕ → ℕ → ℕ → Bool
fitting offset count room = both (leb (offset + 8 * count + 12) room) (both (ltb count (2 ^ 32)) (ltb offset (2 ^ 32)))

-- the writer's answer, by the number of the first bad record and these measures
unfoldable pub measured_answer : Option ℕ → ℕ → ℕ → ℕ → ℕ
measured_answer None offset count room = if (fitting offset count room) done no_room
measured_answer (Some bad) offset count room = bad_record

-- so many records, each of which is given at its place from 0
pub record Given (gives : ℕ → Record → Type 0) (count : ℕ) (all : List Record) : Type 0 where
  pub many : length all ≡ count
  pub each : (i : ℕ) (r : Record) → i < count → gives i r → r ≡ get_or all i no_record

-- the number of the first bad one
abbrev pub FirstBad : List Record → Option ℕ → Type 0
FirstBad all None = first_bad all ≡ 0
FirstBad all (Some bad) = (first_bad all ≡ bad) × (bad ≢ 0)

-- the answer of a call that may be refused
abbrev pub Refused : ℕ → Refusal → Type 0
Refused answer refusal = (answer ≡ number refusal) × (eqb answer done ≡ false)

abbrev pub Tells : {A : Type 0} → ℕ → Result A Refusal → Type 0
Tells answer (Ok x) = answer ≡ done
Tells answer (Err refusal) = Refused answer refusal

-- a trailer that is met, and its numbers
pub record Met (file : List ℕ) (count offset : ℕ) : Type 0 where
  pub has : has_trailer file ≡ true
  pub meet : meets file ≡ true
  pub counted : count ≡ count_of file
  pub placed : offset ≡ offset_of file
  pub sum : offset + 8 * count + 12 ≡ length file

-- that, or why it is refused
abbrev pub Ending : List ℕ → Result Ends Refusal → Type 0
Ending file (Ok ends) = Met file ends.count ends.offset
Ending file (Err refusal) = Refused (trailer_answer file) refusal

-- the record of a number, or why it is refused
abbrev pub Reads : List ℕ → ℕ → Result Record Refusal → Type 0
Reads file n (Ok entry) = ReadsRecord file n done entry
Reads file n (Err refusal) = ReadsRecord file n (number refusal) no_record
