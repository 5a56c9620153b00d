-- What the runner's orders can ask for: the state that each leaves, and its line of output.
use Rattle.std.specs.Prelude.{◌≡◌, not, List, [], ℕ, ◌+◌, ◌*◌, ◌/◌, ◌%◌, ◌≤◌, eqb, ltb, length, get_or, set, replicate}
use Rattle.common.specs.Answers.{done, served}
use Rattle.common.specs.Choice.{if}
use Rattle.common.specs.Lists.{listed}
use Rattle.common.specs.Sizes.{ram_bytes, line_bytes}
use Rattle.editors.specs.declared.Owners.{Owners}
use Rattle.sound.specs.declared.Accesses.{Accesses}
use Rattle.sound.specs.Line.{access_by, sound_report}
use Rattle.chip.specs.Reset.{reset_chip}
use Rattle.draw.specs.Drawing.{entry_at}
use Rattle.runs.specs.World.{World, world_of, with_chip, roomed}
use Rattle.runs.specs.Call.{Call, line, start, area, place, mute, Told, nothing, byte, vector, report, placed, outcome, answer_to, world_after}
use Rattle.forecast.specs.Rule.{answer_of, lines_forecast, cycles_forecast, most_forecast, list_of}
use Rattle.text.specs.Text.{Appends}
use Rattle.text.specs.Lines.{one_line, two_line, three_line, step_line, forecast_line, bad_line}
use Rattle.text.specs.Paint.{painted_line}
use Rattle.text.specs.Dump.{export_line, psg_line}
use Rattle.calls.specs.declared.Runner.{Runner}

-- what a scene hands on from one order to the next: the world, and 16 bytes that wait for a start, an area or a list
pub record Running : Type 0 where
  pub world : World
  pub waiting : List ℕ

-- that of a runner
abbrev pub running_of : Runner → Running
running_of m =
    record { world = world_of m.machine.chip m.ram.now m.store.now m.song.now m.picture.now m.slots.now; waiting = m.machine.waiting }

-- at first, and after a reset
abbrev pub none_waiting : List ℕ
none_waiting = replicate 16 0

-- with a byte at this one of the 16 places; at any other address nothing changes
abbrev pub waiting_with : List ℕ → ℕ → ℕ → List ℕ
waiting_with waiting a b = if (ltb a 16) (set waiting a b) waiting

-- a number of 32 bits in the four from a place on, low byte first
abbrev pub number_in : List ℕ → ℕ → ℕ
number_in waiting n =
    get_or waiting n 0 + get_or waiting (n + 1) 0 * 256 + get_or waiting (n + 2) 0 * 65536 + get_or waiting (n + 3) 0 * 16777216

-- the owners that a start gives, in the first seven: the palette entries' number in four bytes, the sprites' in two, the channels' in one,
-- low byte first
abbrev pub owners_in : List ℕ → Owners
owners_in waiting =
    let b : ℕ → ℕ = λ n. get_or waiting n 0 in record { palette = number_in waiting 0; sprites = b 4 + b 5 * 256; channels = b 6 }

-- the area whose bounds stand in the next eight, the lower one first
abbrev pub area_in : List ℕ → Call
area_in waiting = area (number_in waiting 7) (number_in waiting 11)

-- how long a list is: the high byte of its length stands in the last of the 16
abbrev pub length_in : List ℕ → ℕ → ℕ
length_in waiting low = low + get_or waiting 15 0 * 256

-- so many bytes of RAM, from an address on and round its end
unfoldable pub copied : List ℕ → ℕ → ℕ → List ℕ
copied ram a n = listed (λ i. get_or ram ((a + i) % ram_bytes) 0) 0 n

-- a call; a byte of RAM changed by the host; a byte that is to wait at a place; a start with what waits; an area given by what waits; a
-- list placed that stands in RAM from an address on, with the low byte of its length; a reset; the registers exported; the PSG's
-- registers shown; a line that is drawn and stepped, and shown; the list at an address forecast with a prescale; or none of these
pub data Act : Type 0 where
  calls : Call → Act
  pokes : ℕ → ℕ → Act
  waits : ℕ → ℕ → Act
  starts : Act
  gives : Act
  places : ℕ → ℕ → Act
  resets : Act
  exports : Act
  hears : Act
  shows : Accesses → Act
  foretells : ℕ → ℕ → Act
  unknown : Act

-- what the processor does at the 8255, two bits of the value for each channel: channel n's are bits 2n + 1 and 2n
abbrev pub accesses_in : ℕ → Accesses
accesses_in v = record { first = access_by (v % 4); second = access_by (v / 4 % 4); third = access_by (v / 16 % 4) }

-- a channel muted by any value but 0, and heard again by 0
abbrev pub mute_by : ℕ → ℕ → Call
mute_by n v = mute n (not (eqb v 0))

-- the line's call, into a line of 640 bytes
abbrev pub shown : Accesses → Call
shown a = line a line_bytes

-- a list placed, with the bytes that RAM has before it
abbrev pub place_from : Running → ℕ → ℕ → Call
place_from s a low = place (copied s.world.lent.ram a (length_in s.waiting low))

-- the state after a call
abbrev pub called : Running → Call → Running
called s c = record { world = world_after s.world c; waiting = s.waiting }

-- and after any of them
abbrev pub state_by : Running → Act → Running
state_by s (calls c) = called s c
state_by s (pokes a b) =
    let w = s.world in
    record { world = roomed w w.chip (set w.lent.ram a b) w.lent.slots; waiting = s.waiting }
state_by s (waits a b) = record { world = s.world; waiting = waiting_with s.waiting a b }
state_by s starts = called s (start (owners_in s.waiting))
state_by s gives = called s (area_in s.waiting)
state_by s (places a low) = called s (place_from s a low)
state_by s resets = record { world = with_chip s.world reset_chip; waiting = none_waiting }
state_by s exports = s
state_by s hears = s
state_by s (shows a) = called s (shown a)
state_by s (foretells a n) = s
state_by s unknown = s

-- a line of what a call tells: its answer, then the byte, the vector, the report, or the address and the handle
abbrev pub told_line : ℕ → Told → List ℕ
told_line answer nothing = one_line answer
told_line answer (byte b) = two_line answer b
told_line answer (vector v) = two_line answer v
told_line answer (report r) = step_line answer r
told_line answer (placed a handle) = three_line answer a handle

-- of a forecast: all numbers 0 where it is refused
unfoldable pub foretold_line : List ℕ → ℕ → ℕ → List ℕ
foretold_line ram from prescale =
    let answer = answer_of ram from in
    forecast_line answer (served answer (lines_forecast ram from prescale) 0) (served answer (cycles_forecast ram from) 0)
    (length (served answer (list_of ram from) [])) (served answer (most_forecast ram from) 0)

abbrev pub called_line : World → Call → List ℕ
called_line w c = told_line (answer_to w c) (outcome w c).told

-- of a line that is shown: its entries are those of the chip before it
abbrev pub shown_line : World → Accesses → List ℕ
shown_line w a =
    painted_line (answer_to w (shown a)) (entry_at w.chip w.lent.ram w.lent.store) (sound_report w.lent.ram a w.chip.sound)

-- the line of any of them
abbrev pub line_by : Running → Act → List ℕ
line_by s (calls c) = called_line s.world c
line_by s (pokes a b) = one_line done
line_by s (waits a b) = one_line done
line_by s starts = called_line s.world (start (owners_in s.waiting))
line_by s gives = called_line s.world (area_in s.waiting)
line_by s (places a low) = called_line s.world (place_from s a low)
line_by s resets = one_line done
line_by s exports = export_line s.world.chip
line_by s hears = psg_line s.world.chip.sound.psg
line_by s (shows a) = shown_line s.world a
line_by s (foretells a n) = foretold_line s.world.lent.ram a n
line_by s unknown = bad_line

-- this is done: the state that it leaves, and its line in the output, which is no longer than 1,024 bytes
pub record Does (s : Running) (a : Act) (s' : Running) (before : List ℕ) (at : ℕ) (after : List ℕ) (at' : ℕ) : Type 0 where
  pub state : s' ≡ state_by s a
  pub puts : Appends before at (line_by s a) after at'
  pub bound : at' ≤ at + 1024

-- a runner that lends the same buffers as before, RAM, the pixel store and the output as long as they were
pub record SameBuffers (m m' : Runner) : Type 0 where
  pub ram : m'.ram.ghost_name ≡ m.ram.ghost_name
  pub store : m'.store.ghost_name ≡ m.store.ghost_name
  pub song : m'.song.ghost_name ≡ m.song.ghost_name
  pub picture : m'.picture.ghost_name ≡ m.picture.ghost_name
  pub slots : m'.slots.ghost_name ≡ m.slots.ghost_name
  pub out : m'.out.bytes.ghost_name ≡ m.out.bytes.ghost_name
  pub ram_size : length m'.ram.now ≡ length m.ram.now
  pub store_size : length m'.store.now ≡ length m.store.now
  pub out_size : length m'.out.bytes.now ≡ length m.out.bytes.now

-- a runner does this
pub record Performs (m : Runner) (a : Act) (m' : Runner) : Type 0 where
  pub does : Does (running_of m) a (running_of m') m.out.bytes.now m.out.at m'.out.bytes.now m'.out.at
  pub lent : SameBuffers m m'
