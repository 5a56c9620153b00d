-- Requests L8, L9 and L13: a take played from reset: the calls that its records are, and what they come to.
use Rattle.std.specs.Prelude.{List, [], ◌∷◌, ◌++◌, ℕ, zero, suc, ◌+◌, ◌-◌, eqb, get_or, set, replicate}
use Rattle.common.specs.Answers.{done}
use Rattle.common.specs.Choice.{if}
use Rattle.editors.specs.declared.Editor.TheVariants.{Song, Picture}
use Rattle.editors.specs.declared.Owners.{Owners}
use Rattle.sound.specs.declared.Access.TheVariants.{Off}
use Rattle.sound.specs.declared.Accesses.{Accesses}
use Rattle.chip.specs.Reset.{reset_chip}
use Rattle.take.specs.declared.Record.{Record}
use Rattle.runs.specs.World.{World, world_of}
use Rattle.runs.specs.Call.{Call, bc, bd, gate, write, undo, ack, step, start, mute}
use Rattle.runs.specs.Sort.{on_line}
use Rattle.runs.specs.Run.{Made, made_over, world_over}

-- the call of a record by its kind: 1 to 3 write to BCxx, BDxx and 7Fxx; by 4 the song editor writes to the page and by 6 it takes a
-- write back, by 7 and 8 the picture editor does; 5 acknowledges; 9 starts, with the owners that are lent; 10 mutes the channel of its
-- address by value 1, and by another has it heard. No other kind is a call
abbrev pub call_by : Owners → Record → List Call
call_by o r =
    if (eqb r.kind 1) (bc r.value ∷ [])
    (if (eqb r.kind 2) (bd r.value ∷ [])
    (if (eqb r.kind 3) (gate r.value ∷ [])
    (if (eqb r.kind 4) (write Song r.address r.value ∷ [])
    (if (eqb r.kind 5) (ack ∷ [])
    (if (eqb r.kind 6) (undo Song ∷ [])
    (if (eqb r.kind 7) (write Picture r.address r.value ∷ [])
    (if (eqb r.kind 8) (undo Picture ∷ [])
    (if (eqb r.kind 9) (start o ∷ [])
    (if (eqb r.kind 10) (mute r.address (eqb r.value 1) ∷ []) [])))))))))

-- a line step with the processor off the 8255 for each channel; so many of them before other calls. It is the core's, which draws nothing:
-- a replay has no line to draw into, and steps in mode 3 too, where the line's call is refused
abbrev pub off : Accesses
off = record { first = Off; second = Off; third = Off }

unfoldable pub lines_then : ℕ → List Call → List Call
lines_then zero cs = cs
lines_then (suc n) cs = step off ∷ lines_then n cs

-- the line number after lines were stepped until another is reached: none where it is reached already
abbrev pub later : ℕ → ℕ → ℕ
later from to = from + (to - from)

-- the calls of all records, in order, from a line number on: before each one lines until its number is reached
unfoldable pub calls_from : Owners → ℕ → List Record → List Call
calls_from o at [] = []
calls_from o at (r ∷ rs) = lines_then (r.line - at) (call_by o r ++ calls_from o (later at r.line) rs)

-- a refusal is counted at its number; the numbers go up to 23
abbrev pub no_counts : List ℕ
no_counts = replicate 24 0

abbrev pub refusal_counted : List ℕ → ℕ → List ℕ
refusal_counted counts answer = if (eqb answer done) counts (set counts answer (get_or counts answer 0 + 1))

-- the lines stepped, and how often each refusal number has come to a call other than a line step, over a run
abbrev pub lines_over : ℕ → List Made → ℕ
lines_over at [] = at
lines_over at (e ∷ es) = lines_over (on_line (λ a. suc at) at e.asks) es

abbrev pub counts_over : List ℕ → List Made → List ℕ
counts_over counts [] = counts
counts_over counts (e ∷ es) = counts_over (on_line (λ a. counts) (refusal_counted counts e.reply.answer) e.asks) es

-- how far a replay is: the chip with the lent RAM, store and places of both records, the lines stepped since reset, and those counts
pub record Progress : Type 0 where
  pub world : World
  pub lines : ℕ
  pub counts : List ℕ

-- at reset; a take places no list, so no places of lists are lent
abbrev pub fresh : List ℕ → List ℕ → List ℕ → List ℕ → Progress
fresh ram store song picture = record { world = world_of reset_chip ram store song picture []; lines = 0; counts = no_counts }

-- after calls
abbrev pub over : Progress → List Call → Progress
over p cs =
    record {
      world = world_over p.world cs;
      lines = lines_over p.lines (made_over p.world cs);
      counts = counts_over p.counts (made_over p.world cs);
    }

-- after all records
unfoldable pub replayed : Owners → Progress → List Record → Progress
replayed o p rs = over p (calls_from o p.lines rs)
