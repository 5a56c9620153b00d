-- 01, "Numbers a call can answer": the number of each refusal, and the answer of a call that is served or refused.
use Rattle.std.specs.Prelude.{ℕ, Result, Ok, Err}
use Rattle.common.specs.declared.answer.Refusal.{Refusal}
use Rattle.common.specs.declared.answer.Refusal.TheVariants.{WrongLength, NotMapped, NothingThere, ModeThree, NoInterrupt, NoStop, NotListing, TooSmall, ConverterThere, NothingToUndo, NoTrailer, NotMet, BadRecord, NoRoom, NotYours, NoRoomForStop, ReportTooSmall, WrongArea, AllPlaced, NoGap, NoHandle, ListInUse}
use Rattle.common.specs.Answers.{done, wrong_length, not_mapped, nothing_there, mode_three, no_interrupt, no_stop, not_listing, too_small, converter_there, nothing_to_undo, no_trailer, not_met, bad_record, no_room, not_yours, no_room_for_stop, report_too_small, wrong_area, all_placed_answer, no_gap_answer, no_handle_answer, list_in_use}

-- its number in the table
abbrev pub number : Refusal → ℕ
number WrongLength = wrong_length
number NotMapped = not_mapped
number NothingThere = nothing_there
number ModeThree = mode_three
number NoInterrupt = no_interrupt
number NoStop = no_stop
number NotListing = not_listing
number TooSmall = too_small
number ConverterThere = converter_there
number NothingToUndo = nothing_to_undo
number NoTrailer = no_trailer
number NotMet = not_met
number BadRecord = bad_record
number NoRoom = no_room
number NotYours = not_yours
number NoRoomForStop = no_room_for_stop
number ReportTooSmall = report_too_small
number WrongArea = wrong_area
number AllPlaced = all_placed_answer
number NoGap = no_gap_answer
number NoHandle = no_handle_answer
number ListInUse = list_in_use

-- what a call answers: 0 where it is served
abbrev pub answer_number : {A : Type 0} → Result A Refusal → ℕ
answer_number (Ok x) = done
answer_number (Err refusal) = number refusal
