-- 02, L10: what mending makes of the words of a list, and which of them it changes.
use Rattle.std.specs.Prelude.{Bool, true, false, not, List, [], ◌∷◌, map, ◌++◌, ℕ, suc, ◌+◌, ◌*◌, ◌/◌, ◌%◌, eqb, ltb, length, take, drop, get_or}
use Rattle.common.specs.Answers.{done, wrong_length, no_room_for_stop, report_too_small}
use Rattle.common.specs.Choice.{if, both, of_bool}
use Rattle.words.specs.Words.{kind_of, low12, loop_bit, int_bit, stop_bit, has_stop}
use Rattle.words.specs.declared.WordKind.{WordKind}
use Rattle.words.specs.declared.WordKind.TheVariants.{Load, Pause, Repeat, Control, Nothing}
use Rattle.mend.specs.declared.Change.{Change}

-- ---- a word

-- a control word with these of LOOP, INT and STOP (bits 0, 4 and 5) and no other bit
abbrev pub control : Bool → Bool → Bool → ℕ
control loop int stop = 0x4000 + of_bool loop + 16 * of_bool int + 32 * of_bool stop

-- the one with none of them, which does nothing, and the one with STOP alone
abbrev pub nop : ℕ
nop = control false false false

abbrev pub stop : ℕ
stop = control false false true

-- 1000h, and a word whose code is 3 or 5 to F, become 4000h; of a control word bits 0, 4 and 5 stay; every other word stays whole
abbrev pub mended_as : WordKind → ℕ → ℕ
mended_as Load w = w
mended_as Pause w = if (eqb (low12 w) 0) nop w
mended_as Repeat w = w
mended_as Control w = control (loop_bit (low12 w)) (int_bit (low12 w)) (stop_bit (low12 w))
mended_as Nothing w = nop

unfoldable pub mended : ℕ → ℕ
mended w = mended_as (kind_of w) w

-- ---- a list

-- the STOP that goes after the last word, where none of them has one
abbrev pub added_stop : List ℕ → List ℕ
added_stop words = if (has_stop words) [] (stop ∷ [])

-- the words mended
unfoldable pub mended_words : List ℕ → List ℕ
mended_words words = map mended words ++ added_stop words

-- ---- in a buffer, whose first `used` words are in use

abbrev pub in_use_of : List ℕ → ℕ → List ℕ
in_use_of buffer used = take used buffer

-- the words in use afterwards
abbrev pub mended_list : List ℕ → ℕ → List ℕ
mended_list buffer used = mended_words (in_use_of buffer used)

-- the buffer afterwards: what lies beyond them stays
unfoldable pub mended_buffer : List ℕ → ℕ → List ℕ
mended_buffer buffer used = mended_list buffer used ++ drop (length (mended_list buffer used)) buffer

-- ---- the changes: a place, counted from 0, the word that stood there and the one that stands there now

-- of words that stand from a place on, those that mending changes
unfoldable pub changes_from : ℕ → List ℕ → List Change
changes_from place [] = []
changes_from place (w ∷ ws) =
    elim (eqb (mended w) w) [
      | true ↦ changes_from (suc place) ws
      | false ↦ record { place = place; old = w; new = mended w } ∷ changes_from (suc place) ws
    ]

-- the added STOP is a change whatever the buffer held there, also where that was 4020h
abbrev pub stop_change : List ℕ → ℕ → List Change
stop_change buffer used =
    if (has_stop (in_use_of buffer used)) [] (record { place = used; old = get_or buffer used 0; new = stop } ∷ [])

-- all of them, in rising order of the places
unfoldable pub changes_of : List ℕ → ℕ → List Change
changes_of buffer used = changes_from 0 (in_use_of buffer used) ++ stop_change buffer used

-- ---- the report: two numbers a change, the place, then 65,536 times the old word and the new one

unfoldable pub numbers_of : List Change → List ℕ
numbers_of [] = []
numbers_of (c ∷ cs) = c.place ∷ (c.old * 65536 + c.new) ∷ numbers_of cs

-- the changes for which a report has room
abbrev pub room_of : List ℕ → ℕ
room_of report = length report / 2

-- the report afterwards: the numbers beyond the changes stay
unfoldable pub report_after : List Change → List ℕ → List ℕ
report_after cs report = numbers_of cs ++ drop (length (numbers_of cs)) report

-- a change of a report by its number from 0, all 0 where the report has no room for so many
abbrev pub empty_change : Change
empty_change = record { place = 0; old = 0; new = 0 }

unfoldable pub change_at : List ℕ → ℕ → Change
change_at report i =
    if (ltb i (room_of report))
    (record {
      place = get_or report (i * 2) 0;
      old = get_or report (i * 2 + 1) 0 / 65536 % 65536;
      new = get_or report (i * 2 + 1) 0 % 65536;
    })
    empty_change

-- ---- the answer: more words in use than the buffer has; no STOP among them and no room for one; more changes than the report has
-- room for; in this order

unfoldable pub mend_answer : List ℕ → ℕ → List ℕ → ℕ
mend_answer buffer used report =
    if (ltb (length buffer) used) wrong_length
    (if (both (not (has_stop (in_use_of buffer used))) (eqb used (length buffer))) no_room_for_stop
    (if (ltb (room_of report) (length (changes_of buffer used))) report_too_small
    done))
