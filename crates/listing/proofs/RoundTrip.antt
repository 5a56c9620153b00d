-- Read serves exactly the texts of words; what is printed reads as the same words, and what is read prints as the same text.
use Rattle.std.proofs.Common.{◌≡◌, refl, ap, sym, ◌∙◌, Bool, true, false, List, [], ◌∷◌, append-nil, ℕ, suc, ◌≤◌, ◌<◌, arith, le-leb, leb-true, leb, length, take, get_or}
use Rattle.std.proofs.Math.Seq.{sets}
use Rattle.common.proofs.Lists.{front}
use Rattle.common.specs.Choice.{if}
use Rattle.common.specs.Answers.{done, too_small}
use Rattle.listing.specs.Text.{text_of, Words}
use Rattle.listing.specs.Print.{Printing}
use Rattle.listing.specs.Read.{Reading, read_answer}
use Rattle.listing.specs.Contract.{Serves, PrintsWords, ReadsText}
use Rattle.listing.proofs.Parsing.{parsed-once, text_parses}

-- a call that is served has room
room : (n limit : ℕ) → done ≡ if (leb n limit) done too_small → n ≤ limit
room n limit e = leb-true n limit (by-test (leb n limit) e)
  where
    by-test : (t : Bool) → done ≡ if t done too_small → t ≡ true
    by-test true f = refl
    by-test false f = absurd (omega arith)

-- words whose text fits are printed: the buffer begins with their text
pub prints :
    {ws before after : List ℕ} {answer size : ℕ} → Printing ws before after answer size → length (text_of ws) ≤ length before →
    Serves (text_of ws) after answer size
prints {ws} {before} {after} {answer} {size} p h =
    let f = le-leb (length (text_of ws)) (length before) h in
    let n : size ≡ length (text_of ws) = p.sized ∙ rw f in
    let stored : after ≡ sets before 0 (text_of ws) = p.buffer ∙ rw f in
    record { answered = p.answered ∙ rw f; told = n; first = rw (n, stored) (front (text_of ws) before h) }

-- a text of words that fit is read: the buffer begins with these words
pub reads :
    {text before after : List ℕ} {answer count line : ℕ} → Reading text before after answer count line →
    (ws : List ℕ) → Words ws → text ≡ text_of ws → length ws ≤ length before → Serves ws after answer count
reads {text} {before} {after} {answer} {count} r ws a e h =
    let same = parsed-once r.parsed (rw (← e) at (text_parses ws a)) in
    let f = le-leb (length ws) (length before) h in
    let all : read_answer r.words r.rest (length before) ≡ done = rw (same.0, same.1, f) in
    let n : count ≡ length ws = r.counted ∙ rw (all, same.0) in
    let stored : after ≡ sets before 0 ws = r.buffer ∙ rw (all, same.0) in
    record { answered = r.answered ∙ all; told = n; first = rw (n, stored) (front ws before h) }

-- words that are printed are read back, for every list of words and every buffer that holds them
words-below : (ws : List ℕ) → ((i : ℕ) → get_or ws i 0 < 65536) → Words ws
words-below [] h = tt
words-below (w ∷ ws) h = (h 0, words-below ws (λ i. h (suc i)))

pub printed_back :
    {ws before after : List ℕ} {answer size : ℕ} → ((i : ℕ) → get_or ws i 0 < 65536) → Printing ws before after answer size →
    PrintsWords ws before after answer size
printed_back {ws} {before} {after} {size = size} a p =
    record {
      printing = p;
      reads-back =
          λ d.
          let h : length (text_of ws) ≤ length before = room (length (text_of ws)) (length before) (sym d ∙ p.answered) in
          record { back = λ r g. reads r ws (words-below ws a) (prints p h).first g };
    }

-- no other text is read
pub record Accepted (text before after : List ℕ) (count : ℕ) : Type 0 where
  pub words : List ℕ
  pub each : Words words
  pub whole : text ≡ text_of words
  pub fits : length words ≤ length before
  pub stored : take count after ≡ words

form : (words rest : List ℕ) (limit : ℕ) → done ≡ read_answer words rest limit → (rest ≡ []) × (length words ≤ limit)
form words [] limit e = (refl, room (length words) limit e)
form words (x ∷ rest) limit e = absurd (omega arith)

pub accepted :
    {text before after : List ℕ} {answer count line : ℕ} → Reading text before after answer count line → answer ≡ done →
    Accepted text before after count
accepted {text} {before} r d =
    let a = form r.words r.rest (length before) (sym d ∙ r.answered) in
    let e : text ≡ text_of r.words = r.parsed.whole ∙ rw a.0 (append-nil (text_of r.words)) in
    record { words = r.words; each = r.parsed.each; whole = e; fits = a.1; stored = (reads r r.words r.parsed.each e a.1).first }

prints_as :
    {text before after : List ℕ} {answer size : ℕ} (ws : List ℕ) → text_of ws ≡ text → Printing ws before after answer size →
    length text ≤ length before → Serves text after answer size
prints_as ws e p h = rw e at (prints p (rw e h))

-- a text that is read is printed back byte by byte, for every buffer that holds it
pub read_back :
    {text before after : List ℕ} {answer count line : ℕ} → Reading text before after answer count line →
    ReadsText text before after answer count line
read_back {after = after} {count = count} r =
    record {
      reading = r;
      prints-back = λ d. let a = accepted r d in record { back = prints_as (take count after) (ap text_of a.stored ∙ sym a.whole) };
    }
