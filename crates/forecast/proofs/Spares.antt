-- What a call other than a line step does to a channel; and that a call which spares the channel by its arguments leaves it alone.
use mathlib.Core.Path.{◌≡◌}
use mathlib.Core.List.{[]}
use Prim.Native.Nat.{ℕ, ◌<◌}
use native.Mathlib.Omega.{arith}
use Rattle.common.specs.Answers.{done}
use Rattle.editors.specs.declared.Editor.{Editor}
use Rattle.chip.specs.declared.Chip.{Chip}
use Rattle.chip.specs.Editors.{started}
use Rattle.chip.specs.Channels.{Keeps, LeftAlone, Aside}
use Rattle.chip.proofs.ChannelLaws.{aside_self}
use Rattle.registers.specs.declared.address.ChannelRegister.{ChannelRegister}
use Rattle.registers.specs.declared.address.ChannelRegister.TheVariants.{StartLow, StartHigh, Prescale}
use Rattle.registers.specs.declared.address.Register.TheVariants.{Channel}
use Rattle.registers.specs.Registers.{register_written}
use Rattle.registers.specs.Address.{register_at}
use Rattle.registers.proofs.ChannelWrites.{page_leaves, page_alone}
use Rattle.registers.proofs.AddressLaws.{channel-address, dcsr-address}
use Rattle.runs.specs.World.{World}
use Rattle.runs.specs.Call.{Call, Reply, served_world}
use Rattle.runs.specs.Sort.{sort_of, line_in}
use Rattle.runs.specs.Run.{Makes}
use Rattle.runs.proofs.Calls.{served-is}
use Rattle.runs.proofs.Views.{Edits, View, feeds, writes, undoes, steps, starts, lends, plain, view}
use Rattle.forecast.specs.Demand.{channel, NotWritten, Spares}

-- a page write that doesn't name the channel
write_alone :
    (c : Chip) (ed : Editor) (a b n : ℕ) → n < 3 → NotWritten n c ed a b →
    LeftAlone (channel c n) (channel (register_written c ed (register_at a) b) n)
write_alone c ed a b n h s = page_alone c ed (register_at a) b n h own (λ e. s.enable (dcsr-address a e))
  where
    own : (r : ChannelRegister) → register_at a ≡ Channel n r → ⊥
    own StartLow e = s.low (omega (arith, channel-address a n StartLow e))
    own StartHigh e = s.high (omega (arith, channel-address a n StartHigh e))
    own Prescale e = s.prescale (omega (arith, channel-address a n Prescale e))

-- what a served call does to channel n: pause, line count, loop counter and mark stay over all but a line step, and it is left alone if
-- the call spares it
pub record Effect (n : ℕ) (w : World) (c : Call) : Type 0 where
  pub keeps : line_in (sort_of c) ≡ [] → Keeps (channel w.chip n) (channel (served_world w c).chip n)
  pub alone : Spares n w (sort_of c) → LeftAlone (channel w.chip n) (channel (served_world w c).chip n)

-- a call that sets the channel aside, whatever its arguments
aside-effect : (n : ℕ) (w : World) (c : Call) → Aside (channel w.chip n) (channel (served_world w c).chip n) → Effect n w c
aside-effect n w c a = record { keeps = λ e. a.keeps; alone = λ s. a.alone }

-- a page write, and an undo
module _ {w v : World} {ed : Editor} {address byte : ℕ} (n : ℕ) (h : n < 3) (e : Edits w v ed address byte) where
  edit_keeps : Keeps (channel w.chip n) (channel v.chip n)
  edit_keeps = rw e.chip (page_leaves w.chip ed (register_at address) byte n h)

  edit_alone : NotWritten n w.chip ed address byte → LeftAlone (channel w.chip n) (channel v.chip n)
  edit_alone s = rw e.chip (write_alone w.chip ed address byte n h s)

by-view : (n : ℕ) → n < 3 → (w : World) (c : Call) → View w c → Effect n w c
unfolding started
by-view n h w c (feeds b l) = aside-effect n w c (l.channel n)
by-view n h w c (writes ed a b e) = record { keeps = λ z. edit_keeps n h e; alone = edit_alone n h e }
by-view n h w c (undoes ed e) = record { keeps = λ z. edit_keeps n h e; alone = edit_alone n h e }
by-view n h w c (steps a l) =
    record {
      keeps = λ e. absurd (let f = rw l.sorts at e in let z : ◌≡◌ {A = ℕ} 0 1 = cc in omega arith);
      alone = λ s. absurd (rw l.sorts at s);
    }
by-view n h w c (starts o) = aside-effect n w c (aside_self (channel w.chip n))
by-view n h w c (lends l) = aside-effect n w c (aside_self (channel w.chip n))
by-view n h w c (plain s q l) = aside-effect n w c (l.channel n)

pub effect : (n : ℕ) → n < 3 → (w : World) (c : Call) → Effect n w c
effect n h w c = by-view n h w c (view w c)

-- a call of a run that spares the channel is as a run asks it
pub spared :
    {w v : World} {c : Call} {r : Reply} (n : ℕ) → n < 3 → Makes w c r v → Spares n w (sort_of c) → r.answer ≡ done →
    LeftAlone (channel w.chip n) (channel v.chip n)
spared {w} {c = c} n h k s z = rw (served-is k z) ((effect n h w c).alone s)
