-- What a call's contract says, said of worlds: from a chip with buffers to the chip and the buffers after it.
use mathlib.Core.Path.{◌≡◌, refl}
use mathlib.Core.List.{List}
use Prim.Native.Nat.{ℕ}
use lib.ListN.{length}
use Rattle.editors.specs.declared.Editor.{Editor}
use Rattle.sound.specs.declared.Accesses.{Accesses}
use Rattle.chip.specs.declared.Acknowledged.{Acknowledged}
use Rattle.chip.specs.declared.Stepped.{Stepped}
use Rattle.chip.specs.Interrupts.{acknowledged, Acknowledges}
use Rattle.chip.specs.Step.{stepped}
use Rattle.line.specs.Contract.{Shows}
use Rattle.runs.specs.World.{World, with_chip}
use Rattle.runs.specs.Call.{read, ack, line, answer_to, world_after}
use Rattle.runs.proofs.Calls.{by_answer, chip-served}

module _ (w : World) where
  pub acknowledging : {r : Acknowledged} → Acknowledges w.chip r → with_chip w r.chip ≡ world_after w ack
  acknowledging k = rw k.chip (chip-served (answer_to w ack) w (acknowledged w.chip))

  pub showing :
      {line_Before line_after : List ℕ} {a : Accesses} {r : Stepped} → Shows w.chip w.lent.ram w.lent.store a line_Before line_after r →
      with_chip w r.chip ≡ world_after w (line a (length line_Before))
  showing {line_Before} {a = a} k =
      rw k.steps.chip (chip-served (answer_to w (line a (length line_Before))) w (stepped w.lent.ram w.chip))

  -- a page read leaves all
  pub reading : (e : Editor) (a bus : ℕ) → w ≡ world_after w (read e a bus)
  reading e a bus = by_answer (λ v. w ≡ v) w (read e a bus) (λ z. refl) refl
