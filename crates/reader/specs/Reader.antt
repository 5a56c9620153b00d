-- Request L8: a reader over a take that is lent. What stands at a place, what the reader hands out, and what that comes to over a take.
use Rattle.std.specs.Prelude.{◌≡◌, Bool, List, [], ◌∷◌, ◌++◌, map, ℕ, ◌+◌, ◌-◌, ◌/◌, Option, Some, None, ltb, length, take, drop, replicate}
use Rattle.std.specs.Borrow.{Bor}
use Rattle.std.specs.Iterator.{YieldsFirst}
use Rattle.common.specs.Choice.{if}
use Rattle.common.specs.Answers.{done, served}
use Rattle.take.specs.Open.{open_answer, offset_of, records_from, records_of, record_from}
use Rattle.take.specs.declared.Record.{Record}
use Rattle.reader.specs.declared.Reader.{Reader}

-- whether no whole record stands from a place on before the trailer of 12 bytes
abbrev pub ended : List ℕ → ℕ → Bool
ended file at = ltb (length file) (at + 20)

-- what stands at a place: the record there, or none at the end; and the next place
unfoldable pub found_at : List ℕ → ℕ → Option Record
found_at file at = if (ended file at) None (Some (record_from file at))

unfoldable pub after_at : List ℕ → ℕ → ℕ
after_at file at = if (ended file at) at (at + 8)

pub record Advanced : Type 0 where
  pub found : Option Record
  pub at : ℕ

abbrev pub advanced_at : List ℕ → ℕ → Advanced
advanced_at file at = record { found = found_at file at; at = after_at file at }

-- the place of a take's first record; the end of a file that does not open, where none stands
unfoldable pub first_place : List ℕ → ℕ
first_place file = served (open_answer file) (offset_of file) (length file)

-- a reader at a place
abbrev pub reader_at : Bor (List ℕ) → ℕ → Reader
reader_at file at = record { file = file; at = at }

-- what a reader hands out, beside the reader after it
pub record Handed : Type 0 where
  pub reader : Reader
  pub found : Option Record

abbrev pub handed : Reader → Handed
handed r =
    record {
      reader = record { file = r.file; at = after_at r.file.now r.at };
      found = found_at r.file.now r.at;
    }

-- the records that it has left: the whole ones from its place on, before the trailer
unfoldable pub records_left : Reader → List Record
records_left r = records_from ((length r.file.now - (r.at + 12)) / 8) (drop r.at r.file.now)

-- a call of `next`: what it hands out and the reader after it; and so the first of what was left, which leaves the others
abbrev pub Nexted : Reader → Option Record → Reader → Type 0
Nexted r found after = YieldsFirst records_left r found after × (record { reader = after; found = found } ≡ handed r)

-- calls of `next` one after the other, the first on this reader and each on the one after: what they hand out. Of each call no more is
-- known than its contract
pub data Nexts : Reader → List (Option Record) → Type 0 where
  none : {r : Reader} → Nexts r []
  one : {r : Reader} {h : Handed} {fs : List (Option Record)} → h ≡ handed r → Nexts h.reader fs → Nexts r (h.found ∷ fs)

-- what a reader hands out, however often it is asked: of a take its records in order, and then none each time; of a file that does
-- not open none each time
pub record HandsOut (file : List ℕ) (r : Reader) : Type 0 where
  pub records :
      open_answer file ≡ done → {fs : List (Option Record)} → Nexts r fs →
      fs ≡ take (length fs) (map Some (records_of file) ++ replicate (length fs) None)
  pub ends : (open_answer file ≡ done → ⊥) → {fs : List (Option Record)} → Nexts r fs → fs ≡ replicate (length fs) None

-- a reader over a file: where it stands, what it hands out, and what it has left
pub record ReadsTake (file : Bor (List ℕ)) (r : Reader) : Type 0 where
  pub reader : r ≡ reader_at file (first_place file.now)
  pub hands_out : HandsOut file.now r
  pub left : records_left r ≡ served (open_answer file.now) (records_of file.now) []
