-- 01, "Interrupts": acknowledge.
use Rattle.std.specs.Prelude.{◌≡◌, Bool, false, not, ℕ, ◌+◌, ◌-◌, ◌*◌, ◌/◌, ◌<◌, eqb, leb, set, Option, Some, None}
use Rattle.common.specs.Choice.{if, both, either, bit}
use Rattle.sound.specs.declared.Channel.{Channel}
use Rattle.sound.specs.declared.Sound.{Sound}
use Rattle.sound.specs.Channels.{with_flags}
use Rattle.sound.specs.Line.{channel_of}
use Rattle.chip.specs.declared.Chip.{Chip}
use Rattle.chip.specs.declared.Interrupts.{Interrupts}
use Rattle.chip.specs.declared.Acknowledged.{Acknowledged}
use Rattle.chip.specs.declared.acknowledge.Source.{Source}
use Rattle.chip.specs.declared.acknowledge.Source.TheVariants.{Raster, Channel as ChannelOf}
use Rattle.chip.specs.State.{with_interrupts, with_sound}
use Rattle.common.specs.Answers.{done, no_interrupt, served}

-- channel n's interrupt waits
abbrev pub waiting : Sound → ℕ → Bool
waiting s n = (channel_of s.channels n).interrupt

-- a source is known by what it adds to the vector: 6 for raster, 4, 2, 0 for channels 0, 1, 2
abbrev pub of_raster : ℕ
of_raster = 6

abbrev pub of_channel : ℕ → ℕ
of_channel n = 4 - 2 * n

-- the channel that is known by a number below raster's
abbrev pub channel_for : ℕ → ℕ
channel_for source = 2 - source / 2

-- where nothing waits
abbrev pub nobody : ℕ
nobody = 8

-- the number that a source of the code is known by
abbrev pub code : Option Source → ℕ
code None = nobody
code (Some Raster) = of_raster
code (Some (ChannelOf n)) = of_channel n

-- there are channels 0, 1 and 2
abbrev pub HasChannel : Source → Type 0
HasChannel Raster = Unit {0}
HasChannel (ChannelOf n) = n < 3

-- the source that is served: raster first, then channels 2, 1, 0
unfoldable pub source_of : Bool → Sound → ℕ
source_of raster s =
    if raster of_raster
    (if (waiting s 2) (of_channel 2) (if (waiting s 1) (of_channel 1) (if (waiting s 0) (of_channel 0) nobody)))

abbrev pub source_on : Chip → ℕ
source_on c = source_of c.interrupts.raster c.sound

unfoldable pub acknowledge_answer : Chip → ℕ
acknowledge_answer c = if (eqb (source_on c) nobody) no_interrupt done

-- the top five bits of IVR, and what the source adds
unfoldable pub vector_of : ℕ → ℕ → ℕ
vector_of ivr source = ivr / 8 * 8 + source

unfoldable pub vector_on : Chip → ℕ
vector_on c = vector_of c.interrupts.ivr (source_on c)

-- raster is cleared if it is served, and DCSR shows whether the last acknowledge was raster
abbrev pub interrupts_served : Interrupts → ℕ → Interrupts
interrupts_served i source =
    record i {
      raster = both i.raster (not (eqb source of_raster));
      last_raster = eqb source of_raster;
    }

-- a channel with its interrupt cleared, and the sound state with channel n's
abbrev pub cleared : Channel → Channel
cleared d = with_flags d d.enabled false

abbrev pub with_cleared : Sound → ℕ → Sound
with_cleared s n = record s { channels = set s.channels n (cleared (channel_of s.channels n)) }

-- a channel that is served loses its interrupt with IVR bit 0 at 0, and keeps it with 1
unfoldable pub sound_served : Sound → ℕ → ℕ → Sound
sound_served s ivr source = if (either (leb of_raster source) (bit 0 ivr)) s (with_cleared s (channel_for source))

-- the chip after a served acknowledge
unfoldable pub acknowledged : Chip → Chip
acknowledged c =
    with_sound (with_interrupts c (interrupts_served c.interrupts (source_on c)))
    (sound_served c.sound c.interrupts.ivr (source_on c))

-- what acknowledge promises
pub record Acknowledges (c : Chip) (r : Acknowledged) : Type 0 where
  pub answer : r.answer ≡ acknowledge_answer c
  pub chip : r.chip ≡ served (acknowledge_answer c) (acknowledged c) c
  pub vector : r.vector ≡ served (acknowledge_answer c) (vector_on c) 0
