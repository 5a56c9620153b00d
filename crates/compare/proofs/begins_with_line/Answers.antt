-- A text begins with a line exactly where a rest, an empty one too, is left behind it.
use Rattle.std.proofs.Common.{◌≡◌, Bool, true, false, List, ℕ, refl, sym, ◌∙◌}
use Rattle.std.specs.Prelude.{Option, Some, None}
use Rattle.std.specs.Borrow.{Bor}
use Rattle.std.specs.Option.{is_some}
use Rattle.common.specs.Lists.{begins}
use Rattle.common.proofs.Begins.{begins-with, begins-true}
use Rattle.compare.specs.Rest.{Stripped}
use Rattle.compare.proofs.begins_with_line.Goals as goal

stripped : (s l : List ℕ) (r : Option (Bor (List ℕ))) → Stripped s l r → is_some r ≡ begins l s
stripped s l None h = by-test (begins l s) refl
  where
    by-test : (b : Bool) → begins l s ≡ b → false ≡ b
    by-test true e = absurd (h _ (begins-true l s e))
    by-test false e = refl
stripped s l (Some r) h = rw h (sym (begins-with l r.now))

pub returns : goal.returns
returns c = c.is_some.ensures ∙ stripped _ _ _ c.strip_line.ensures
