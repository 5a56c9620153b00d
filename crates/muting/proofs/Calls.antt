-- Every call on two worlds that are the same but for one mute mark and the PSG: the same reply, and such worlds again.
use mathlib.Core.Path.{◌≡◌, refl, ap, sym, ◌∙◌}
use mathlib.Core.Bool.{Bool, true, false}
use mathlib.Core.List.{List}
use Prim.Native.Nat.{ℕ, zero, suc, ◌%◌}
use lib.Dec.{leb}
use lib.ListN.{set}
use Rattle.common.specs.Choice.{if, either, bit}
use Rattle.editors.specs.declared.Editor.{Editor}
use Rattle.editors.specs.declared.Table.{Table}
use Rattle.lists.specs.Room.{place_at}
use Rattle.sound.specs.declared.Channel.{Channel}
use Rattle.sound.specs.declared.Sound.{Sound}
use Rattle.sound.specs.Channels.{with_mute}
use Rattle.sound.specs.Line.{channel_of, sound_after}
use Rattle.chip.specs.declared.Chip.{Chip}
use Rattle.chip.specs.declared.Editing.{Editing}
use Rattle.chip.specs.State.{with_sound, with_editing}
use Rattle.chip.specs.Editors.{undo_of, started}
use Rattle.chip.specs.Ports.{selected, data_answer, data_written, gate_written}
use Rattle.chip.specs.Interrupts.{of_raster, channel_for, source_on, cleared, with_cleared, sound_served, acknowledge_answer, acknowledged, vector_on}
use Rattle.chip.specs.Mute.{mute_set}
use Rattle.chip.specs.Step.{stepped, counters_stepped}
use Rattle.registers.specs.declared.address.ChannelRegister.{ChannelRegister}
use Rattle.registers.specs.declared.address.ChannelRegister.TheVariants.{StartLow, StartHigh, Prescale}
use Rattle.registers.specs.declared.address.Register.{Register}
use Rattle.registers.specs.declared.address.Register.TheVariants.{Pixel, Sprite as SpriteAt, Palette, Video as VideoAt, Ivr, Converter, Channel as ChannelAt, Dcsr, Status, Empty}
use Rattle.registers.specs.Address.{register_at}
use Rattle.registers.specs.Owners.{owns_channel}
use Rattle.registers.specs.Registers.{channel_written, control_written, control_by, dcsr_written, register_written, store_written, dcsr, register_read}
use Rattle.contents.specs.Contents.{channel_contents, contents}
use Rattle.page.specs.UndoRecord.{is_kept, entry_with, entry_register_of, entry_contents}
use Rattle.page.specs.Page.{page_answer, read_answer, write_answer, page_written, places_after}
use Rattle.page.specs.Undo.{newest, undo_answer, undone}
use Rattle.draw.specs.Drawing.{draw_answer}
use Rattle.runs.specs.World.{World, Buffers, places_of, with_edited}
use Rattle.runs.specs.Call.{Call, bc, bd, gate, read, write, undo, ack, line, step, start, area, place, remove, mute, lend, Reply, reply_to, served_world, world_after}
use Rattle.runs.proofs.Pairs.{both-answer}
use Rattle.muting.specs.Muting.{SameBut}
use Rattle.muting.proofs.Alike.{Alike, part, source_same, in_use_same, report-same, line-alike, set-alike, mute-alike}

-- ---- registers of the page

written-muted : (r : ChannelRegister) (b : ℕ) (c : Channel) (m : Bool) → channel_written (with_mute c m) r b ≡ with_mute (channel_written c r b) m
written-muted StartLow b c m = refl
written-muted StartHigh b c m = refl
written-muted Prescale b c m = refl

control-muted : (own : Bool) (b n : ℕ) (c : Channel) (m : Bool) → if own (control_written b n (with_mute c m)) (with_mute c m) ≡ with_mute (if own (control_written b n c) c) m
control-muted true b n c m = refl
control-muted false b n c m = refl

control-mark : (own : Bool) (b n : ℕ) (c : Channel) → (if own (control_written b n c) c).muted ≡ c.muted
control-mark true b n c = refl
control-mark false b n c = refl

module _ {k : ℕ} (c : Chip) (y : Sound) (h : Alike k c.sound y) where
  abbrev other : Chip
  other = with_sound c y

  dcsr-same : (e : Editor) → dcsr other e ≡ dcsr c e
  unfolding dcsr
  dcsr-same e = rw (interrupt 0, interrupt 1, interrupt 2, enabled 0, enabled 1, enabled 2)
    where
      interrupt : (n : ℕ) → (channel_of y.channels n).interrupt ≡ (channel_of c.sound.channels n).interrupt
      interrupt = part h (λ d. d.interrupt) (λ d m. refl)

      enabled : (n : ℕ) → (channel_of y.channels n).enabled ≡ (channel_of c.sound.channels n).enabled
      enabled = part h (λ d. d.enabled) (λ d m. refl)

  pub read_same : (e : Editor) (store : List ℕ) (x : Register) (bus : ℕ) → register_read other e store x bus ≡ register_read c e store x bus
  read_same e store (Pixel i) bus = refl
  read_same e store (SpriteAt n p) bus = refl
  read_same e store (Palette i) bus = refl
  read_same e store (VideoAt v) bus = refl
  read_same e store Ivr bus = refl
  read_same e store Converter bus = refl
  read_same e store (ChannelAt n r) bus = dcsr-same e
  read_same e store Dcsr bus = dcsr-same e
  read_same e store Status bus = dcsr-same e
  read_same e store Empty bus = refl

  -- what undo keeps of a register
  pub contents-same : (store : List ℕ) (x : Register) → contents other store x ≡ contents c store x
  contents-same store (Pixel i) = refl
  contents-same store (SpriteAt n p) = refl
  contents-same store (Palette i) = refl
  contents-same store (VideoAt v) = refl
  contents-same store Ivr = refl
  contents-same store Converter = refl
  contents-same store (ChannelAt n r) = part h (λ d. channel_contents d r) (by_register r) n
    where
      by_register : (r : ChannelRegister) (d : Channel) (m : Bool) → channel_contents (with_mute d m) r ≡ channel_contents d r
      by_register StartLow d m = refl
      by_register StartHigh d m = refl
      by_register Prescale d m = refl
  contents-same store Dcsr = refl
  contents-same store Status = refl
  contents-same store Empty = refl

  -- DCSR
  control-alike : (t : Table) (e : Editor) (b : ℕ) (p q : List ℕ) → Alike k (record { channels = dcsr_written t e c.sound.channels b; psg = p }) (record { channels = dcsr_written t e y.channels b; psg = q })
  control-alike t e b p q = record { count = refl; channel = channel; marks = marks }
    where
      by : (n : ℕ) → control_by t e b n (channel_of y.channels n) ≡ with_mute (control_by t e b n (channel_of c.sound.channels n)) (control_by t e b n (channel_of y.channels n)).muted
      by n =
          ap (control_by t e b n) (h.channel n) ∙ control-muted (owns_channel t e n) b n _ _
          ∙ ap (with_mute (control_by t e b n (channel_of c.sound.channels n))) (sym (control-mark (owns_channel t e n) b n (channel_of y.channels n)))

      mark : (n : ℕ) → (n ≡ k → ⊥) → (control_by t e b n (channel_of y.channels n)).muted ≡ (control_by t e b n (channel_of c.sound.channels n)).muted
      mark n f = control-mark (owns_channel t e n) b n _ ∙ h.marks n f ∙ sym (control-mark (owns_channel t e n) b n _)

      channel : (n : ℕ) → channel_of (dcsr_written t e y.channels b) n ≡ with_mute (channel_of (dcsr_written t e c.sound.channels b) n) (channel_of (dcsr_written t e y.channels b) n).muted
      channel zero = by 0
      channel (suc zero) = by 1
      channel (suc (suc zero)) = by 2
      channel (suc (suc (suc n))) = refl

      marks : (n : ℕ) → (n ≡ k → ⊥) → (channel_of (dcsr_written t e y.channels b) n).muted ≡ (channel_of (dcsr_written t e c.sound.channels b) n).muted
      marks zero f = mark 0 f
      marks (suc zero) f = mark 1 f
      marks (suc (suc zero)) f = mark 2 f
      marks (suc (suc (suc n))) f = refl

  -- a register written on both
  pub record Both (d e : Chip) : Type 0 where
    pub rest : e ≡ with_sound d e.sound
    pub alike : Alike k d.sound e.sound

  pub write-both : (e : Editor) (x : Register) (b : ℕ) → Both (register_written c e x b) (register_written other e x b)
  write-both e (Pixel i) b = record { rest = refl; alike = h }
  write-both e (SpriteAt n p) b = record { rest = refl; alike = h }
  write-both e (Palette i) b = record { rest = refl; alike = h }
  write-both e (VideoAt v) b = record { rest = refl; alike = h }
  write-both e Ivr b = record { rest = refl; alike = h }
  write-both e Converter b = record { rest = refl; alike = h }
  write-both e (ChannelAt n r) b = record { rest = refl; alike = set-alike h n (λ d. channel_written d r b) (written-muted r b) _ _ }
  write-both e Dcsr b = record { rest = refl; alike = control-alike c.editing.table e b _ _ }
  write-both e Status b = record { rest = refl; alike = h }
  write-both e Empty b = record { rest = refl; alike = h }

  -- an acknowledge
  served-alike : (ivr source : ℕ) → Alike k (sound_served c.sound ivr source) (sound_served y ivr source)
  unfolding sound_served
  served-alike ivr source = go (either (leb of_raster source) (bit 0 ivr))
    where
      go : (t : Bool) → Alike k (if t c.sound (with_cleared c.sound (channel_for source))) (if t y (with_cleared y (channel_for source)))
      go true = h
      go false = set-alike h (channel_for source) cleared (λ d m. refl) _ _

  pub acknowledge_both : Both (acknowledged c) (acknowledged other)
  unfolding acknowledged
  acknowledge_both =
      rw (source_same h c.interrupts.raster) (record { rest = refl; alike = served-alike c.interrupts.ivr (source_on c) })

  pub step_both : (ram : List ℕ) → Both (stepped ram c) (stepped ram other)
  unfolding stepped counters_stepped sound_after
  step_both ram = record { rest = refl; alike = line-alike h ram _ _ }

  -- ---- the calls, with these buffers
  module _ (l : Buffers) where
    abbrev one : World
    one = record { chip = c; lent = l }

    abbrev two : World
    two = record { chip = other; lent = l }

    pub same-reply : (x : Call) → reply_to one x ≡ reply_to two x
    unfolding data_answer page_answer read_answer write_answer undo_answer acknowledge_answer vector_on draw_answer
    same-reply (bc b) = refl
    same-reply (bd b) = refl
    same-reply (gate b) = refl
    same-reply (read e a bus) = rw (read_same e l.store (register_at a) bus)
    same-reply (write e a b) = refl
    same-reply (undo e) = refl
    same-reply ack = rw (source_same h c.interrupts.raster)
    same-reply (line a n) = rw (report-same h l.ram a)
    same-reply (step a) = rw (report-same h l.ram a)
    same-reply (start o) = refl
    same-reply (area from upto) = refl
    same-reply (place list) = refl
    same-reply (remove handle) = rw (in_use_same h (place_at l.slots handle))
    same-reply (mute n m) = refl
    same-reply (lend b) = refl

    -- two worlds by their chips and buffers
    by_parts : {d e : Chip} (m n : Buffers) → Both d e → n ≡ m → SameBut k (record { chip = d; lent = m }) (record { chip = e; lent = n })
    by_parts m n b q = record { chip-rest = b.rest; lent = q; count = b.alike.count; channel = b.alike.channel; marks = b.alike.marks }

    by_chips : {d e : Chip} (m : Buffers) → Both d e → SameBut k (record { chip = d; lent = m }) (record { chip = e; lent = m })
    by_chips m b = by_parts m m b refl

    with_record : {d e : Chip} (x : Editing) → Both d e → Both (with_editing d x) (with_editing e x)
    with_record x b = record { rest = ap (λ (f : Chip). with_editing f x) b.rest; alike = b.alike }

    served-both : (x : Call) → SameBut k (served_world one x) (served_world two x)
    unfolding selected data_written gate_written page_written places_after undone started mute_set
    served-both (bc b) = by_chips l (record { rest = refl; alike = h })
    served-both (bd b) = by_chips l (record { rest = refl; alike = h })
    served-both (gate b) = by_chips l (record { rest = refl; alike = h })
    served-both (read e a bus) = by_chips l (record { rest = refl; alike = h })
    served-both (write e a b) =
        by_parts _ _ (with_record _ (write-both e (register_at a) b))
        (ap
        (λ v.
        with_edited l e (store_written l.store (register_at a) b)
        (if (is_kept (register_at a)) (set (places_of l e) ((undo_of c.editing e).next % 256) (entry_with a v)) (places_of l e)))
        (contents-same l.store (register_at a)))
    served-both (undo e) =
        let entry = newest c e (places_of l e) in
        by_chips _ (with_record _ (write-both e (entry_register_of entry) (entry_contents entry)))
    served-both ack = by_chips l acknowledge_both
    served-both (line a n) = by_chips l (step_both l.ram)
    served-both (step a) = by_chips l (step_both l.ram)
    served-both (start o) = by_chips l (record { rest = refl; alike = h })
    served-both (area from upto) = by_chips l (record { rest = refl; alike = h })
    served-both (place list) = by_chips _ (record { rest = refl; alike = h })
    served-both (remove handle) = by_chips l (record { rest = refl; alike = h })
    served-both (mute n m) = by_chips l (record { rest = refl; alike = mute-alike h n m _ _ })
    served-both (lend b) = by_chips _ (record { rest = refl; alike = h })

    pub call-both : (x : Call) → SameBut k (world_after one x) (world_after two x)
    call-both x =
        both-answer (SameBut k) one two x (ap (λ (r : Reply). r.answer) (same-reply x)) (λ z. served-both x)
        (by_chips l (record { rest = refl; alike = h }))
