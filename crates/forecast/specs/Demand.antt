-- Demand 3: what the forecast says of a sound list holds in every run of calls that plays it. One claim, in the order of 01, "Sound".
use Rattle.std.specs.Prelude.{◌≡◌, Bool, true, false, List, [], ◌∷◌, map, ℕ, ◌+◌, ◌-◌, ◌*◌, ◌<◌, ◌≤◌, leb, length, take, get_or}
use Rattle.common.specs.Answers.{done, served}
use Rattle.common.specs.Choice.{either, bit}
use Rattle.words.specs.Words.{is_load, stop_bit}
use Rattle.words.specs.declared.WordKind.TheVariants.{Load, Pause, Repeat, Control, Nothing}
use Rattle.sound.specs.declared.Access.{Access}
use Rattle.sound.specs.declared.Access.TheVariants.{Off, PsgWrite}
use Rattle.sound.specs.declared.Accesses.{Accesses}
use Rattle.sound.specs.declared.Channel.{Channel}
use Rattle.sound.specs.declared.Did.{Did}
use Rattle.sound.specs.declared.Did.TheVariants.{SatOut, Executed}
use Rattle.sound.specs.declared.Report.{Report}
use Rattle.sound.specs.Channels.{word_at}
use Rattle.sound.specs.Line.{channel_of, did_of, access_of, own_cycles, taken}
use Rattle.editors.specs.declared.Editor.{Editor}
use Rattle.chip.specs.declared.Chip.{Chip}
use Rattle.chip.specs.Channels.{LeftAlone}
use Rattle.chip.specs.Step.{idle_report}
use Rattle.runs.specs.World.{World, places_of}
use Rattle.runs.specs.Call.{Told, nothing, byte, vector, report, placed}
use Rattle.runs.specs.Sort.{Sort, feeds, writes, undoes, steps_line, starts, lends, plain, on_line}
use Rattle.runs.specs.Run.{Made, Run, Each}
use Rattle.registers.specs.Owners.{owns_channel}
use Rattle.page.specs.UndoRecord.{entry_address, entry_contents}
use Rattle.page.specs.Undo.{newest}
use Rattle.forecast.specs.Rule.{even, words_of}

-- ---- the calls of a run are those of `Call` in the crate `runs`: the line's call, which is the line step where it is served and passes no
-- line where it is refused (02, L11); port writes, page reads and writes, undo, acknowledges; starts; the calls on placed lists (02, L12);
-- mute (02, L13). The page calls are those of both editors, and the host may lend other buffers before each of them. The core's own step
-- is a line too

-- channel n of the chip
abbrev pub channel : Chip → ℕ → Channel
channel c n = channel_of c.sound.channels n

-- ---- a run starts from any chip with the channel so: enabled, at the even start and the prescale of the forecast, with no pause and
-- no loop; line count and mark are free
pub record Ready (start prescale : ℕ) (c : Channel) : Type 0 where
  pub enabled : c.enabled ≡ true
  pub address : c.address ≡ even start
  pub divides : c.prescale ≡ prescale
  pub pause : c.pause ≡ 0
  pub counter : c.counter ≡ 0

-- ---- a served line step is lent RAM that has the words of the list at an even start, through its first STOP
pub record Lent (ram : List ℕ) (start : ℕ) (lent : List ℕ) : Type 0 where
  pub words : (i : ℕ) → i < length (words_of ram start) → word_at lent (start + i * 2) ≡ word_at ram (start + i * 2)

-- ---- what a served call other than a line step must not do to channel n of the chip before it. By its arguments:

-- a page write of the byte b to the address a by either editor goes neither to the channel's start address, low (6C00h + 4n) or high
-- (+ 1), nor to its prescale (+ 2); and if the channel's owner writes to DCSR (6C0Fh) while the channel is enabled, bit n is set
pub record NotWritten (n : ℕ) (c : Chip) (e : Editor) (a b : ℕ) : Type 0 where
  pub low : a ≡ 0x6c00 + 4 * n → ⊥
  pub high : a ≡ 0x6c00 + 4 * n + 1 → ⊥
  pub prescale : a ≡ 0x6c00 + 4 * n + 2 → ⊥
  pub enable : a ≡ 0x6c0f → owns_channel c.editing.table e n ≡ true → (channel c n).enabled ≡ true → bit n b ≡ true

-- an undo counts as a write of what it puts back, to the address of the editor's newest entry; no other call can name the channel;
-- a line step is none of them
abbrev pub Spares : ℕ → World → Sort → Type 0
Spares n w (feeds b) = Unit {0}
Spares n w (writes e a b) = NotWritten n w.chip e a b
Spares n w (undoes e) =
    let entry = newest w.chip e (places_of w.lent e) in NotWritten n w.chip e (entry_address entry) (entry_contents entry)
Spares n w (steps_line a) = ⊥
Spares n w (starts o) = Unit {0}
Spares n w (lends l) = Unit {0}
Spares n w plain = Unit {0}

-- ---- a served line step: what the processor did at the 8255 for each channel, and the report
pub record LineStep : Type 0 where
  pub accesses : Accesses
  pub report : Report

-- the report that a reply has
abbrev pub report_in : Told → Report
report_in nothing = idle_report
report_in (byte b) = idle_report
report_in (vector v) = idle_report
report_in (report r) = r
report_in (placed a h) = idle_report

-- the served line steps of a run, in order
abbrev pub step_by : Made → List LineStep → List LineStep
step_by e steps =
    on_line (λ a. served e.reply.answer (record { accesses = a; report = report_in e.reply.told } ∷ steps) steps) steps e.asks

abbrev pub steps_of : List Made → List LineStep
steps_of [] = []
steps_of (e ∷ es) = step_by e (steps_of es)

-- ---- what is asked of each call of a run, for channel n and the list at a start: a served line step is lent the list's words; what the
-- served calls between the lines must not do is asked by its effect, `LeftAlone`: address and prescale are as before, and an enable that
-- was set still is. A law says that a served call which spares the channel by its arguments does so. The processor may do at the 8255
-- whatever it likes
abbrev pub Allowed : ℕ → List ℕ → ℕ → Made → Type 0
Allowed n ram start e =
    e.reply.answer ≡ done →
    on_line (λ a. Lent ram start e.before.lent.ram) (LeftAlone (channel e.before.chip n) (channel e.after.chip n)) e.asks

-- ---- what the channel executed is what the steps report of it; `ownCycles` of an access and a report is what it cost the channel itself

-- what channel n did on a line, and what the processor did there
abbrev pub did_in : ℕ → LineStep → Did
did_in n s = did_of s.report.entries n

abbrev pub access_in : ℕ → LineStep → Access
access_in n s = access_of s.accesses n

-- what channel n did on each served line
abbrev pub did_over : ℕ → List LineStep → List Did
did_over n steps = map (did_in n) steps

-- the report says that a STOP was executed; that the channel sat out; that a LOAD was executed
abbrev pub did_stop : Did → Bool
did_stop SatOut = false
did_stop (Executed Load n) = false
did_stop (Executed Pause n) = false
did_stop (Executed Repeat n) = false
did_stop (Executed Control n) = stop_bit n
did_stop (Executed Nothing n) = false

abbrev pub did_sit : Did → Bool
did_sit SatOut = true
did_sit (Executed k n) = false

abbrev pub did_load : Did → Bool
did_load SatOut = false
did_load (Executed k n) = is_load k

-- a STOP among the reports
unfoldable pub any_stop : List Did → Bool
any_stop [] = false
any_stop (d ∷ ds) = either (did_stop d) (any_stop ds)

-- channel n's own cycles over the steps, and what the processor took from its LOADs there
unfoldable pub own_over : ℕ → List LineStep → ℕ
own_over n [] = 0
own_over n (s ∷ ss) = own_cycles (access_in n s) (did_in n s) + own_over n ss

unfoldable pub taken_over : ℕ → List LineStep → ℕ
taken_over n [] = 0
taken_over n (s ∷ ss) = taken (access_in n s) (did_in n s) + taken_over n ss

-- each LOAD of channel n meets this access
unfoldable pub LoadsMeet : Access → ℕ → List LineStep → Type 0
LoadsMeet a n [] = Unit {0}
LoadsMeet a n (s ∷ ss) = (did_load (did_in n s) ≡ true → access_in n s ≡ a) × LoadsMeet a n ss

-- ---- the claim: a STOP was executed exactly if the run has at least so many served line steps; the first instruction came on the
-- first of them; the first STOP on the one of that number; from the one line through the other the channel's own cycles are so many
-- and what the processor took from its LOADs there. So they are at least `cycles`, at most `most`, and `cycles` exactly if no LOAD of
-- the channel through that STOP was disturbed; and they are `most` where each of them met a PSG register write
pub record Foretold (lines cycles most n : ℕ) (steps : List LineStep) : Type 0 where
  pub stopped : any_stop (did_over n steps) ≡ leb lines (length steps)
  pub first : 0 < length steps → did_sit (get_or (did_over n steps) 0 SatOut) ≡ false
  pub before : (i : ℕ) → i + 1 < lines → did_stop (get_or (did_over n steps) i SatOut) ≡ false
  pub last : lines ≤ length steps → did_stop (get_or (did_over n steps) (lines - 1) SatOut) ≡ true
  pub cost : lines ≤ length steps → own_over n (take lines steps) ≡ cycles + taken_over n (take lines steps)
  pub least : lines ≤ length steps → cycles ≤ own_over n (take lines steps)
  pub at_most : lines ≤ length steps → own_over n (take lines steps) ≤ most
  pub undisturbed : lines ≤ length steps → LoadsMeet Off n (take lines steps) → own_over n (take lines steps) ≡ cycles
  pub only_so : lines ≤ length steps → own_over n (take lines steps) ≡ cycles → LoadsMeet Off n (take lines steps)
  pub met : lines ≤ length steps → LoadsMeet PsgWrite n (take lines steps) → own_over n (take lines steps) ≡ most

-- no line takes over 34 cycles
unfoldable pub Bounded : List LineStep → Type 0
Bounded [] = Unit {0}
Bounded (s ∷ ss) = (s.report.cycles ≤ 34) × Bounded ss

-- ---- demand 3: so for each of the three channels, whatever the others play, and for every run
pub record Demand (ram : List ℕ) (start prescale lines cycles most : ℕ) : Type 0 where
  pub foretold :
      (n : ℕ) → n < 3 → (w v : World) (log : List Made) → Ready start prescale (channel w.chip n) →
      Run w log v → Each (Allowed n ram (even start)) log → Foretold lines cycles most n (steps_of log)
  pub bounded : (w v : World) (log : List Made) → Run w log v → Bounded (steps_of log)
