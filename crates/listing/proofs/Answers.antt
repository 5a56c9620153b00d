-- What the passes say of the answers of print and read.
use Rattle.std.proofs.Common.{◌≡◌, ℕ, ◌≤◌, true, List, [], ◌++◌, length, drop, sym, ◌∙◌, arith, zero-add, refl, le-leb}
use Rattle.std.specs.Prelude.{leb}
use Rattle.std.proofs.Math.Seq.{sets-eq}
use Rattle.common.specs.Answers.{done}
use Rattle.common.specs.Storing.{Puts}
use Rattle.listing.specs.Text.{text_of, Parsed}
use Rattle.listing.specs.Print.{Printing}
use Rattle.listing.specs.Read.{Reading}

pub print_served :
    {words before after : List ℕ} {size : ℕ} → leb (length (text_of words)) (length before) ≡ true → Puts before 0 (text_of words) after size →
    Printing words before after done size
print_served e w = record { answered = rw e; sized = rw e (w.place ∙ zero-add _); buffer = rw e w.stored }

pub read-served :
    {text before words : List ℕ} {count : ℕ} → Parsed text words [] → length words ≡ count → count ≤ length before →
    Reading text before (words ++ drop count before) done count 0
read-served {before = before} {words} p n h =
    let f = le-leb (length words) (length before) (omega arith) in
    record {
      words = words;
      rest = [];
      parsed = p;
      answered = rw f;
      counted = rw f (sym n);
      bad = refl;
      buffer = rw (f, sets-eq words before 0 (omega arith), n, zero-add);
    }
