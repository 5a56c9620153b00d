-- Laws of text put into an output.
use mathlib.Core.Path.{refl, ◌∙◌}
use Prim.Native.Nat.{ℕ}
use mathlib.Core.List.{List, [], ◌++◌, append_assoc, append-nil}
use native.Mathlib.Omega.{arith}
use lib.ListN.{length-append}
use Rattle.text.specs.declared.Output.{Output}
use Rattle.text.specs.Text.{Prints}

-- no text
pub nothing : (o : Output) → Prints o [] o
nothing o = record { lent = refl; size = refl; puts = record { place = omega arith; shown = simp append-nil } }

-- two texts after each other
pub joined :
    {o p q : Output} {text more : List ℕ} → Prints o text p → Prints p more q → Prints o (text ++ more) q
joined s t =
    record {
      lent = t.lent ∙ s.lent;
      size = t.size ∙ s.size;
      puts = record {
        place = simp length-append (omega (arith, s.puts.place, t.puts.place));
        shown = simp (t.puts.shown, s.puts.shown, append_assoc);
      };
    }
