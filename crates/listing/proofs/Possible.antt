-- What print and read promise is about something: every list of words is printed into every buffer with room for its text, every such
-- text is read into every buffer with room for the words, and there are such buffers.
use Rattle.std.proofs.Common.{refl, List, [], ℕ, ◌≤◌, arith, le-leb, length, replicate}
use Rattle.std.proofs.Math.ListN.{length-replicate}
use Rattle.std.proofs.Math.Seq.{sets}
use Rattle.common.specs.Answers.{done}
use Rattle.listing.specs.Text.{text_of, Words}
use Rattle.listing.specs.Print.{Printing}
use Rattle.listing.specs.Read.{Reading}
use Rattle.listing.proofs.Parsing.{text_parses}

pub printable :
    (ws before : List ℕ) → length (text_of ws) ≤ length before → Printing ws before (sets before 0 (text_of ws)) done (length (text_of ws))
printable ws before h =
    let f = le-leb (length (text_of ws)) (length before) h in
    record { answered = rw f; sized = rw f; buffer = rw f }

pub readable :
    (ws before : List ℕ) → Words ws → length ws ≤ length before → Reading (text_of ws) before (sets before 0 ws) done (length ws) 0
readable ws before a h =
    let f = le-leb (length ws) (length before) h in
    record { words = ws; rest = []; parsed = text_parses ws a; answered = rw f; counted = rw f; bad = refl; buffer = rw f }

pub room_for : (n : ℕ) → n ≤ length {A = ℕ} (replicate n 0)
room_for n = omega (arith, length-replicate {A = ℕ} n 0)
