-- Requests L7, L9 and L13: a record of a take, its 8 bytes, and which records are bad.
use Rattle.std.specs.Prelude.{Bool, not, List, [], ◌∷◌, ◌++◌, ℕ, suc, ◌/◌, ◌%◌, ◌^◌, ◌<◌, eqb, leb, take}
use Rattle.common.specs.Choice.{if, both, either}
use Rattle.take.specs.Bytes.{bytes_of, number_of}
use Rattle.take.specs.declared.Record.{Record}

-- the parts fit their bytes, as those of every value of the type do
pub record Within (r : Record) : Type 0 where
  pub line : r.line < 2 ^ 32
  pub kind : r.kind < 2 ^ 8
  pub address : r.address < 2 ^ 16
  pub value : r.value < 2 ^ 8

abbrev pub AllWithin : List Record → Type 0
AllWithin [] = Unit {0}
AllWithin (r ∷ rs) = Within r × AllWithin rs

-- line number, kind, address, value
abbrev pub record_bytes : Record → List ℕ
record_bytes r = bytes_of 4 r.line ++ bytes_of 1 r.kind ++ bytes_of 2 r.address ++ bytes_of 1 r.value

-- the same 8 bytes as one number of 64 bits, and the record in such a number
unfoldable pub packed : Record → ℕ
packed r = number_of (record_bytes r)

unfoldable pub unpacked : ℕ → Record
unpacked n =
    record {
      line = n % 2 ^ 32;
      kind = n / 2 ^ 32 % 2 ^ 8;
      address = n / 2 ^ 40 % 2 ^ 16;
      value = n / 2 ^ 56 % 2 ^ 8;
    }

-- the record in the first 8 of some bytes
abbrev pub record_in : List ℕ → Record
record_in bytes = unpacked (number_of (take 8 bytes))

-- the kinds are 1 to 10: BCxx, BDxx and 7Fxx write; the song editor's page write; acknowledge; the song editor's undo; the picture
-- editor's page write and undo; the start; the mute
abbrev pub known_kind : ℕ → Bool
known_kind k = both (leb 1 k) (leb k 10)

-- a page write has an address, either editor's, and a mute: its address is the channel's number, any
abbrev pub has_address : ℕ → Bool
has_address k = either (eqb k 4) (either (eqb k 7) (eqb k 10))

-- acknowledge, both editors' undo and the start have no value
abbrev pub has_value : ℕ → Bool
has_value k = not (either (either (eqb k 5) (eqb k 6)) (either (eqb k 8) (eqb k 9)))

-- a part that a kind does not have is 0
abbrev pub absent : Bool → ℕ → Bool
absent has n = either has (eqb n 0)

-- the values that a kind may have; of a mute it is 1 or 0
abbrev pub value_fits : ℕ → ℕ → Bool
value_fits k v = if (eqb k 10) (leb v 1) (absent (has_value k) v)

-- a record after one with this line number, or after 0 as the first: bad if its kind is none, a part that its kind does
-- not have is not 0, a mute's value is neither 1 nor 0, or its line number falls
unfoldable pub bad : ℕ → Record → Bool
bad before r =
    not (both (known_kind r.kind)
    (both (absent (has_address r.kind) r.address)
    (both (value_fits r.kind r.value)
    (leb before r.line))))

-- the first bad record's number from 1, or 0 where none is bad; so many records came before, the last with this line number
abbrev pub first_bad_after : ℕ → ℕ → List Record → ℕ
first_bad_after count before [] = 0
first_bad_after count before (r ∷ rs) = if (bad before r) (suc count) (first_bad_after (suc count) r.line rs)

unfoldable pub first_bad : List Record → ℕ
first_bad rs = first_bad_after 0 0 rs
