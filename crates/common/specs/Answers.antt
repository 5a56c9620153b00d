-- 01, "Numbers a call can answer": the numbers, and what stands in place of a result where a call is refused.
use Rattle.std.specs.Prelude.{ℕ, eqb}
use Rattle.common.specs.Choice.{if}

-- the call is served
abbrev pub done : ℕ
done = 0

-- a lent buffer has another length
abbrev pub wrong_length : ℕ
wrong_length = 1

-- an address outside the page, or a page that is not mapped
abbrev pub not_mapped : ℕ
not_mapped = 2

-- nothing there to write, or no record with that number
abbrev pub nothing_there : ℕ
nothing_there = 3

-- the screen mode is 3
abbrev pub mode_three : ℕ
mode_three = 4

-- no interrupt waits
abbrev pub no_interrupt : ℕ
no_interrupt = 5

-- no STOP from the start address to FFFEh
abbrev pub no_stop : ℕ
no_stop = 6

-- a text is not of the listing's form
abbrev pub not_listing : ℕ
not_listing = 7

-- the output buffer is too small
abbrev pub too_small : ℕ
too_small = 8

-- a converter there, which is only read
abbrev pub converter_there : ℕ
converter_there = 9

-- nothing left to undo
abbrev pub nothing_to_undo : ℕ
nothing_to_undo = 10

-- a file has no trailer, or other letters
abbrev pub no_trailer : ℕ
no_trailer = 11

-- a take's offset and count do not meet its trailer
abbrev pub not_met : ℕ
not_met = 12

-- a take has a bad record
abbrev pub bad_record : ℕ
bad_record = 13

-- the output is too small for a take, or its count or offset too large
abbrev pub no_room : ℕ
no_room = 14

-- a register that is not this editor's
abbrev pub not_yours : ℕ
not_yours = 15

-- a list has no STOP, and the buffer no room for one
abbrev pub no_room_for_stop : ℕ
no_room_for_stop = 16

-- the report is too small for the changes
abbrev pub report_too_small : ℕ
report_too_small = 17

-- bounds that are no area's, an area that stands already or not yet, or a list's length that none can have there
abbrev pub wrong_area : ℕ
wrong_area = 18

-- all 64 handles have a list
abbrev pub all_placed_answer : ℕ
all_placed_answer = 19

-- no gap of the area is long enough
abbrev pub no_gap_answer : ℕ
no_gap_answer = 20

-- no list has that handle
abbrev pub no_handle_answer : ℕ
no_handle_answer = 21

-- a channel has the list in use
abbrev pub list_in_use : ℕ
list_in_use = 22

-- what a served call gives, or what stands in its place where the number is a refusal
abbrev pub served : {A : Type 0} → ℕ → A → A → A
served number x other = if (eqb number done) x other
