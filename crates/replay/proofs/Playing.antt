-- The records of a take played one after the other: what is left at a place, and what that comes to.
use native.Mathlib.Omega.{arith}
use mathlib.Core.Path.{◌≡◌, refl, sym, ◌∙◌, ap}
use mathlib.Core.List.{List, [], ◌∷◌}
use Prim.Native.Nat.{ℕ, zero, suc, ◌+◌, ◌-◌, ◌^◌, ◌<◌, ◌≤◌}
use lib.ListN.{length, get_or, take, drop, replicate, length-drop}
use lib.Seq.{length-take-le}
use Rattle.editors.specs.declared.Owners.{Owners}
use Rattle.chip.specs.declared.Chip.{Chip}
use Rattle.chip.specs.declared.Answered.{Answered}
use Rattle.runs.specs.World.{with_chip}
use Rattle.take.specs.declared.Record.{Record}
use Rattle.take.specs.Bytes.{AreBytes}
use Rattle.take.specs.Open.{trailer_of, count_of, offset_of, records_of, open_answer, Opening}
use Rattle.common.specs.Answers.{served}
use Rattle.take.proofs.Opening.{length_from}
use Rattle.take.proofs.Trailers.{long, done_met}
use Rattle.take.proofs.Numbers.{number-below, take_below, drop-below}
use Rattle.replay.specs.declared.Lent.{Lent}
use Rattle.replay.specs.declared.Player.{Player}
use Rattle.replay.specs.Replay.{Progress, no_counts, fresh, call_by, later, refusal_counted, calls_from, replayed}
use Rattle.replay.specs.Parts.{progress_by, lines_on, answer_in, record_replayed, Room, Kept, Calls, Opened}
use Rattle.replay.proofs.Counts.{count-more}
use Rattle.replay.proofs.Lines.{replayed-on}

pub kept-on : {l k m : Lent} → Kept l k → Kept k m → Kept l m
kept-on a b =
    record {
      ram = b.ram ∙ a.ram;
      owners = b.owners ∙ a.owners;
      store = b.store ∙ a.store;
      song = b.song ∙ a.song;
      picture = b.picture ∙ a.picture;
    }

-- records are left, and played from here they come to the whole; the counts have room for each
pub record Playing (o : Owners) (whole p : Progress) (left : List Record) : Type 0 where
  pub full : length p.world.lent.ram ≡ 65536
  pub same : replayed o p left ≡ whole
  pub room : (i : ℕ) → get_or p.counts i 0 + length left < 2 ^ 32

none-counted : (i : ℕ) → get_or no_counts i 0 ≡ 0
none-counted i = go 24 i
  where
    go : (n i : ℕ) → ◌≡◌ {A = ℕ} (get_or (replicate n 0) i 0) 0
    go zero i = refl
    go (suc n) zero = refl
    go (suc n) (suc i) = go n i

-- at reset all are left
pub starts :
    (ram store song picture : List ℕ) (o : Owners) {file : List ℕ} {left : List Record} → length ram ≡ 65536 → Opened file →
    left ≡ served (open_answer file) (records_of file) [] →
    Playing o (replayed o (fresh ram store song picture) (records_of file)) (fresh ram store song picture) left
unfolding records_of
starts ram store song picture o {file} {left} full opens e =
    let all : left ≡ records_of file = e ∙ simp opens.opens in
    let many : length left ≡ count_of file = ap length all ∙ length_from (count_of file) (drop (offset_of file) file) in
    record {
      full = full;
      same = rw all;
      room = λ i. rw (none-counted i) (omega (arith, opens.count));
    }

-- a count after one record
one_more : (o : Owners) (p : Progress) (r : Record) (i : ℕ) → get_or (record_replayed o p r).counts i 0 ≤ get_or p.counts i 0 + 1
unfolding record_replayed
one_more o p r i =
    count-more p.counts
    (answer_in (with_chip p.world (lines_on p.world.lent.ram (r.line - p.lines) p.world.chip)) (call_by o r)) i

-- one record is played by its parts
pub one-replayed :
    (ram : List ℕ) (p : Player) {store song picture store' song' picture' : List ℕ} {o : Owners} {r : Record} {c : Chip} {a : Answered}
    {number : ℕ} {counts : List ℕ} → c ≡ lines_on ram (r.line - p.lines) p.chip →
    Calls c store song picture o r store' song' picture' a → number ≡ later p.lines r.line →
    counts ≡ refusal_counted p.counts a.answer →
    progress_by (record { chip = a.chip; lines = number; counts = counts }) ram store' song' picture'
    ≡ record_replayed o (progress_by p ram store song picture) r
unfolding record_replayed
one-replayed ram p on call to count = rw (count, to, call.answer ram, call.world ram, on)

module _ {o : Owners} {whole p : Progress} {left : List Record} (s : Playing o whole p left) where
  -- none is left
  pub ends : left ≡ [] → p ≡ whole
  unfolding replayed calls_from
  ends e = rw e at s.same

  module _ {r : Record} {rest : List Record} (e : left ≡ r ∷ rest) where
    pub room-left : Room p.counts
    room-left =
        let n : length left ≡ suc (length rest) = ap length e in
        record { each = λ i. omega (arith, s.room i) }

    -- one is played, and the others are left
    pub goes_on : {q : Progress} → q ≡ record_replayed o p r → length q.world.lent.ram ≡ 65536 → Playing o whole q rest
    goes_on {q} f full =
        let n : length left ≡ suc (length rest) = ap length e in
        record {
          full = full;
          same = rw f (sym (replayed-on o p r rest s.full) ∙ (rw e at s.same));
          room = λ i. rw f (omega (arith, s.room i, one_more o p r i));
        }

-- a take's count is a number of 4 bytes
count_small : (file : List ℕ) → AreBytes file → 12 ≤ length file → count_of file < 2 ^ 32
count_small file b h =
    let whole : length (trailer_of file) ≡ 12 = simp length-drop (omega arith) in
    let four : length (take 4 (trailer_of file)) ≡ 4 = length-take-le 4 (trailer_of file) (omega arith) in
    rw four at (number-below (take 4 (trailer_of file)) (take_below 4 (trailer_of file) (drop-below (length file - 12) file b)))

-- what opening gives
pub opened :
    {file : List ℕ} {answer bad count offset : ℕ} → AreBytes file → Opening file answer bad count offset → answer ≡ 0 → Opened file
opened {file} b o z =
    let d : open_answer file ≡ 0 = sym o.answered ∙ z in
    record { opens = d; count = count_small file b (long file (done_met file d).has) }
