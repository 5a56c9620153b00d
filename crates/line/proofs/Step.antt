-- What the call serves, the line step serves too, with the same chip and report.
use mathlib.Core.Path.{◌≡◌, sym, ◌∙◌}
use mathlib.Core.List.{List}
use Prim.Native.Nat.{ℕ}
use borrow.Author.Tests.{eq-eqb}
use lib.ListN.{length}
use Rattle.common.specs.Answers.{done}
use Rattle.sound.specs.declared.Accesses.{Accesses}
use Rattle.chip.specs.declared.Chip.{Chip}
use Rattle.chip.specs.declared.Stepped.{Stepped}
use Rattle.chip.specs.Step.{step_answer, StepsBy, Steps}
use Rattle.draw.specs.Drawing.{draw_answer, Draws}
use Rattle.draw.proofs.Parts.{sizes}
use Rattle.line.specs.Contract.{line_answer, AsStepped, Shows}

-- it is served with RAM of 65,536 bytes alone
ram-served : (c : Chip) (ram : List ℕ) (store line : ℕ) → draw_answer c (length ram) store line ≡ done → step_answer ram ≡ done
unfolding step_answer
ram-served c ram store line e = rw (eq-eqb _ _ (sizes c (length ram) store line e).0)

as_stepped :
    (c : Chip) (ram store : List ℕ) (line : ℕ) (a : Accesses) (r : Stepped) → StepsBy (line_answer c ram store line) c ram a r → r.answer ≡ done →
    {s : Stepped} → Steps c ram a s → AsStepped r s
as_stepped c ram store line a r p z q =
    let shown : line_answer c ram store line ≡ done = sym p.answer ∙ z in
    let stepped = ram-served c ram _ _ shown in
    record {
      answer = q.answer ∙ stepped;
      chip = rw (p.chip, q.chip, eq-eqb _ _ shown, eq-eqb _ _ stepped);
      report = rw (p.report, q.report, eq-eqb _ _ shown, eq-eqb _ _ stepped);
    }

-- a line drawn, then stepped by the answer of drawing
pub shows :
    {c : Chip} {ram store line line' : List ℕ} {answer : ℕ} {a : Accesses} {r : Stepped} →
    Draws c ram store line line' answer → StepsBy answer c ram a r → Shows c ram store a line line' r
shows {c} {ram} {store} {line} {a = a} {r = r} d s =
    let steps : StepsBy (line_answer c ram store (length line)) c ram a r = rw d.answer at s in
    record {
      draws = rw s.answer d;
      steps = steps;
      as_stepped = λ z. as_stepped c ram store (length line) a r steps z;
    }
