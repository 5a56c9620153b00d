-- Laws of the line's call, into 640 bytes.
use mathlib.Core.Path.{◌≡◌, sym, ◌∙◌}
use mathlib.Core.List.{List}
use Prim.Native.Nat.{ℕ}
use borrow.Author.Tests.{eq-eqb}
use lib.ListN.{length, get_or}
use Rattle.common.specs.Sizes.{line_bytes}
use Rattle.sound.specs.declared.Accesses.{Accesses}
use Rattle.sound.specs.Line.{sound_report}
use Rattle.chip.specs.declared.Chip.{Chip}
use Rattle.chip.specs.declared.Stepped.{Stepped}
use Rattle.draw.specs.Drawing.{entry_at}
use Rattle.line.specs.Contract.{Shows}
use Rattle.runs.specs.World.{World, world_of, with_chip}
use Rattle.runs.specs.Call.{answer_to, world_after}
use Rattle.runs.proofs.Worlds.{showing}
use Rattle.text.specs.Paint.{painted_line}
use Rattle.text.proofs.Painting.{painted_same}
use Rattle.calls.specs.Orders.{shown, shown_line}

module _ {c : Chip} {ram store line line' : List ℕ} {a : Accesses} {told : Stepped} (k : Shows c ram store a line line' told) (size : length line ≡ line_bytes) (song picture slots : List ℕ) where
  abbrev w : World
  w = world_of c ram store song picture slots

  answer : told.answer ≡ answer_to w (shown a)
  answer = rw size at k.steps.answer

  -- the world that it leaves
  pub shown-world : with_chip w told.chip ≡ world_after w (shown a)
  shown-world = rw size at (showing w k)

  -- its line, shown
  pub painted_line_lem : painted_line told.answer (λ x. get_or line' x 0) told.report ≡ shown_line w a
  painted_line_lem =
      painted_same told.answer (λ x. get_or line' x 0) (entry_at c ram store) told.report (sound_report ram a c.sound) k.draws.drawn
      (λ z. rw (k.steps.report, eq-eqb _ _ (sym k.steps.answer ∙ z))) ∙
      rw answer
