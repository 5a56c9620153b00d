-- 01, "Sound", and 02, L6 and L13: a line of all three channels, the PSG and the cycles.
use Rattle.std.specs.Prelude.{false, List, [], ◌∷◌, ℕ, ◌+◌, ◌/◌, ◌%◌, eqb, set, get_or}
use Rattle.common.specs.Choice.{if}
use Rattle.words.specs.declared.WordKind.TheVariants.{Load, Pause, Repeat, Control, Nothing}
use Rattle.sound.specs.declared.Access.{Access}
use Rattle.sound.specs.declared.Access.TheVariants.{Off, On, PsgWrite}
use Rattle.sound.specs.declared.Accesses.{Accesses}
use Rattle.sound.specs.declared.Channel.{Channel}
use Rattle.sound.specs.declared.Did.{Did}
use Rattle.sound.specs.declared.Did.TheVariants.{SatOut, Executed}
use Rattle.sound.specs.declared.Entry.{Entry}
use Rattle.sound.specs.declared.Report.{Report}
use Rattle.sound.specs.declared.Sound.{Sound}
use Rattle.sound.specs.declared.SoundLine.{SoundLine}
use Rattle.sound.specs.Channels.{turn_of}

-- the channel after a line, and what it did there
abbrev pub channel_after : List ℕ → Channel → Channel
channel_after ram c = (turn_of ram c).channel

abbrev pub did_on : List ℕ → Channel → Did
did_on ram c = (turn_of ram c).did

-- 0RDD, LOAD: PSG register R becomes DD
abbrev pub loaded : List ℕ → Did → List ℕ
loaded psg SatOut = psg
loaded psg (Executed Load n) = set psg (n / 256 % 16) (n % 256)
loaded psg (Executed Pause n) = psg
loaded psg (Executed Repeat n) = psg
loaded psg (Executed Control n) = psg
loaded psg (Executed Nothing n) = psg

-- 02, L13: what a channel did, as the PSG has it: a muted one's LOAD leaves the register
abbrev pub heard : Channel → List ℕ → Did → List ℕ
heard c psg d = if c.muted psg (loaded psg d)

-- 02, L6: the cycles that the processor takes from a LOAD: none off the 8255, 1 on it, 2 if its access is itself a PSG register write
abbrev pub disturbance : Access → ℕ
disturbance Off = 0
disturbance On = 1
disturbance PsgWrite = 2

-- a channel's own cycles: 1 for its fetch, then 8 for a LOAD, with what the processor takes from it, and 1 for any other word; 0 if it
-- sat out
abbrev pub own_cycles : Access → Did → ℕ
own_cycles a SatOut = 0
own_cycles a (Executed Load n) = 9 + disturbance a
own_cycles a (Executed Pause n) = 2
own_cycles a (Executed Repeat n) = 2
own_cycles a (Executed Control n) = 2
own_cycles a (Executed Nothing n) = 2

-- of these, what the processor takes
abbrev pub taken : Access → Did → ℕ
taken a SatOut = 0
taken a (Executed Load n) = disturbance a
taken a (Executed Pause n) = 0
taken a (Executed Repeat n) = 0
taken a (Executed Control n) = 0
taken a (Executed Nothing n) = 0

-- an access by its number: 0 off the 8255, 1 on it, any other a PSG register write
abbrev pub access_by : ℕ → Access
access_by n = if (eqb n 0) Off (if (eqb n 1) On PsgWrite)

-- what the processor does at the 8255 for channel n
abbrev pub access_of : Accesses → ℕ → Access
access_of a n = if (eqb n 0) a.first (if (eqb n 1) a.second a.third)

-- the entry of the report for what a channel did
abbrev pub entry_of : Did → Entry
entry_of d = record { did = d }

-- the all-zero channel, which every channel is after reset
abbrev pub off_channel : Channel
off_channel =
    record {
      enabled = false;
      interrupt = false;
      address = 0;
      prescale = 0;
      pause = 0;
      count = 0;
      counter = 0;
      mark = 0;
      muted = false;
    }

-- channel n of the three
abbrev pub channel_of : List Channel → ℕ → Channel
channel_of cs n = get_or cs n off_channel

-- channel n's entry of the three
abbrev pub did_of : List Entry → ℕ → Did
did_of es n = (get_or es n (entry_of SatOut)).did

-- the three channels after a line: each by itself
abbrev pub channels_after : List ℕ → List Channel → List Channel
channels_after ram cs =
    channel_after ram (channel_of cs 0) ∷ channel_after ram (channel_of cs 1) ∷ channel_after ram (channel_of cs 2) ∷ []

-- what each of the three did
abbrev pub entries_on : List ℕ → List Channel → List Entry
entries_on ram cs =
    entry_of (did_on ram (channel_of cs 0)) ∷ entry_of (did_on ram (channel_of cs 1)) ∷
    entry_of (did_on ram (channel_of cs 2)) ∷ []

-- the PSG after the channels have executed in order 0, 1, 2, each heard unless it is muted
abbrev pub psg_after : List ℕ → List Channel → List Entry → List ℕ
psg_after psg cs es =
    heard (channel_of cs 2) (heard (channel_of cs 1) (heard (channel_of cs 0) psg (did_of es 0)) (did_of es 1)) (did_of es 2)

-- a line's cycles: 1 dead cycle, and each channel's own
abbrev pub cycles_of : Accesses → List Entry → ℕ
cycles_of a es =
    1 + own_cycles (access_of a 0) (did_of es 0) + own_cycles (access_of a 1) (did_of es 1) + own_cycles (access_of a 2) (did_of es 2)

-- the state after one line's sound, whatever the processor does
unfoldable pub sound_after : List ℕ → Sound → Sound
sound_after ram s =
    record { channels = channels_after ram s.channels; psg = psg_after s.psg s.channels (entries_on ram s.channels) }

-- its report
unfoldable pub sound_report : List ℕ → Accesses → Sound → Report
sound_report ram a s =
    record { cycles = cycles_of a (entries_on ram s.channels); entries = entries_on ram s.channels }

-- both
abbrev pub sound_line : List ℕ → Accesses → Sound → SoundLine
sound_line ram a s = record { sound = sound_after ram s; report = sound_report ram a s }
