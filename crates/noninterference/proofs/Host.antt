-- The host's calls: what they do to what one editor can depend on.
use mathlib.Core.Path.{◌≡◌, refl, ap}
use mathlib.Core.Bool.{Bool, true, false}
use mathlib.Core.List.{List}
use Prim.Native.Nat.{ℕ, zero, suc}
use lib.Dec.{leb}
use Rattle.common.specs.Choice.{if, either, bit}
use Rattle.editors.specs.declared.Editor.{Editor}
use Rattle.editors.specs.declared.Owners.{Owners}
use Rattle.editors.specs.declared.Table.{Table}
use Rattle.lock.specs.declared.Lock.{Lock}
use Rattle.lock.specs.Machine.{fed}
use Rattle.sound.specs.declared.Channel.{Channel as Voice}
use Rattle.sound.specs.declared.Sound.{Sound}
use Rattle.sound.specs.Line.{channel_of, off_channel, channel_after, channels_after, sound_after}
use Rattle.chip.specs.declared.Chip.{Chip}
use Rattle.chip.specs.Ports.{selected, data_written, gate_after, gate_written, for_page}
use Rattle.chip.specs.Interrupts.{of_raster, channel_for, source_on, with_cleared, sound_served, acknowledged}
use Rattle.chip.specs.Editors.{started}
use Rattle.chip.specs.Step.{counters_stepped, stepped}
use Rattle.registers.specs.Owners.{owns_channel}
use Rattle.noninterference.proofs.Sames.{Same}
use Rattle.noninterference.proofs.Blocks.{Blocks, blocks_self, blocks_as}

-- with IVR bit 0 at 1 an acknowledge leaves the channels
sound-kept : (s : Sound) (ivr source : ℕ) → bit 0 ivr ≡ true → sound_served s ivr source ≡ s
unfolding sound_served
sound-kept s ivr source h = rw h (go (leb of_raster source))
  where
    go : (b : Bool) → if (either b true) s (with_cleared s (channel_for source)) ≡ s
    go true = refl
    go false = refl

-- a line: each channel by itself
channels-after :
    (t : Table) (e : Editor) (ram : List ℕ) (x y : List Voice) → Same (owns_channel t e) off_channel x y →
    Same (owns_channel t e) off_channel (channels_after ram x) (channels_after ram y)
channels-after t e ram x y s = record { size = refl; each = go }
  where
    go : (n : ℕ) → owns_channel t e n ≡ true → channel_of (channels_after ram x) n ≡ channel_of (channels_after ram y) n
    go zero h = ap (channel_after ram) (s.each 0 h)
    go (suc zero) h = ap (channel_after ram) (s.each 1 h)
    go (suc (suc zero)) h = ap (channel_after ram) (s.each 2 h)
    go (suc (suc (suc n))) h = refl

module _ {t : Table} {e : Editor} where
  pub acknowledge_blocks : (c : Chip) (l : List ℕ) → bit 0 c.interrupts.ivr ≡ true → Blocks t e c l (acknowledged c) l
  unfolding acknowledged
  acknowledge_blocks c l h =
      let v = blocks_self {t = t} {e = e} c l in
      blocks_as c (acknowledged c) v refl refl (rw (sound-kept c.sound c.interrupts.ivr (source_on c) h) v.channels)
      refl refl refl refl refl refl

  pub data_blocks : (c : Chip) (l : List ℕ) (b : ℕ) → Blocks t e c l (data_written c b) l
  unfolding data_written
  data_blocks c l b =
      let v = blocks_self {t = t} {e = e} c l in
      blocks_as c (data_written c b) v refl refl v.channels refl refl refl refl refl refl

  module _ {c d : Chip} {l m : List ℕ} (v : Blocks t e c l d m) where
    pub select_blocks : (b : ℕ) → Blocks t e (selected c b) l (selected d b) m
    unfolding selected
    select_blocks b =
        blocks_as (selected c b) (selected d b) v v.gate (ap (λ (x : Lock). fed x b) v.lock) v.channels
        refl refl refl refl refl refl

    pub gate-blocks : (b : ℕ) → Blocks t e (gate_written c b) l (gate_written d b) m
    unfolding gate_written
    gate-blocks b =
        blocks_as (gate_written c b) (gate_written d b) v (rw v.lock (ap (λ g. gate_after g (for_page d b) b) v.gate)) v.lock v.channels
        refl refl refl refl refl refl

    pub step-blocks : (ram : List ℕ) → Blocks t e (stepped ram c) l (stepped ram d) m
    unfolding stepped counters_stepped sound_after
    step-blocks ram =
        blocks_as (stepped ram c) (stepped ram d) v v.gate v.lock (channels-after t e ram _ _ v.channels)
        refl refl refl refl refl refl

    pub start-blocks : (o : Owners) → Blocks t e (started c o) l (started d o) m
    unfolding started
    start-blocks o =
        blocks_as (started c o) (started d o) v v.gate v.lock v.channels refl refl refl refl refl refl
