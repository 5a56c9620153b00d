-- Request L7, the writer: the answer, the length written, the first bad record and the buffer.
use Rattle.std.specs.Prelude.{◌≡◌, Bool, List, map, ℕ, ◌^◌, eqb, ltb, leb, length}
use Rattle.std.proofs.lemmas.List.Edits.{sets}
use Rattle.common.specs.Choice.{if, both}
use Rattle.common.specs.Answers.{done, bad_record, no_room, served}
use Rattle.take.specs.Record.{unpacked, first_bad}
use Rattle.take.specs.File.{file_of}
use Rattle.take.specs.declared.Record.{Record}

-- the file fits the output, and its count and offset their 4 bytes
abbrev pub room_for : List ℕ → List Record → ℕ → Bool
room_for comment rs room =
    both (leb (length (file_of comment rs)) room) (both (ltb (length rs) (2 ^ 32)) (ltb (length comment) (2 ^ 32)))

-- a bad record first, then no room
unfoldable pub write_answer : List ℕ → List Record → ℕ → ℕ
write_answer comment rs room =
    if (eqb (first_bad rs) 0)
    (if (room_for comment rs room) done no_room)
    bad_record

-- writing a comment and records, lent as numbers of 64 bits: bytes beyond the file stay, and all of them where it is refused
pub record Writing (comment numbers before after : List ℕ) (answer size bad : ℕ) : Type 0 where
  pub answered : answer ≡ write_answer comment (map unpacked numbers) (length before)
  pub sized : size ≡ served (write_answer comment (map unpacked numbers) (length before)) (length (file_of comment (map unpacked numbers))) 0
  pub bad_number : bad ≡ first_bad (map unpacked numbers)
  pub buffer :
      after ≡ served (write_answer comment (map unpacked numbers) (length before)) (sets before 0 (file_of comment (map unpacked numbers))) before
