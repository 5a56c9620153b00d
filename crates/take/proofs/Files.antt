-- What is written opens with the same comment and records; a file that opens is the file of its own comment and records.
use borrow.Author.Tests.{le-leb, leb-true, lt-ltb, ltb-true, eq-eqb, eqb-true}
use native.Mathlib.Omega.{arith}
use mathlib.Core.Path.{◌≡◌, refl, sym, ◌∙◌, ap}
use mathlib.Core.Bool.{Bool, true, false}
use mathlib.Core.List.{List, [], ◌∷◌, ◌++◌, map, append_assoc}
use Prim.Native.Nat.{ℕ, zero, suc, ◌+◌, ◌-◌, ◌*◌, ◌^◌, ◌<◌, ◌≤◌}
use lib.Dec.{leb, ltb, eqb}
use lib.ListN.{length, take, drop, length-append, length-drop, take-append-drop}
use lib.Seq.{sets, drop_at, take-add, take-append_seam, drop-append_seam, length-take-le}
use Rattle.common.proofs.Tests.{both_true}
use Rattle.common.proofs.Lists.{front}
use Rattle.take.specs.Bytes.{AreBytes, bytes_of, number_of}
use Rattle.take.specs.Record.{AllWithin, record_bytes, packed, unpacked, first_bad}
use Rattle.take.specs.File.{letters, records_bytes, trailer, file_of, Writable}
use Rattle.take.specs.Write.{room_for, write_answer, Writing}
use Rattle.take.specs.Open.{trailer_of, count_of, offset_of, has_trailer, meets, records_from, records_of, open_answer, comment_of, Opens}
use Rattle.take.specs.Contract.{WritesTake}
use Rattle.take.specs.Parts.{Met}
use Rattle.take.specs.declared.Record.{Record}
use Rattle.take.proofs.Numbers.{number_exact, number-below, bytes_back, take_below, drop-below}
use Rattle.take.proofs.Records.{within-unpacked, unpacked-packed, bytes-unpacked}
use Rattle.take.proofs.Storing.{length-records, length_file}
use Rattle.take.proofs.Opening.{length_from}
use Rattle.take.proofs.Trailers.{meets-is, done_met, last-letters}

-- records that are written are read again
records-back : (rs : List Record) (more : List ℕ) → AllWithin rs → records_from (length rs) (records_bytes rs ++ more) ≡ rs
unfolding packed
records-back [] more w = refl
records-back (r ∷ rs) more w =
    ap (λ x. x ∷ records_from (length rs) (records_bytes rs ++ more)) (unpacked-packed r w.0) ∙ ap (λ l. r ∷ l) (records-back rs more w.1)

module _ (comment : List ℕ) (rs : List Record) where
  trailer-is : trailer_of (file_of comment rs) ≡ trailer (length rs) (length comment)
  unfolding file_of
  trailer-is =
      let e : length (comment ++ records_bytes rs) ≡ length (file_of comment rs) - 12 =
      length-append comment (records_bytes rs) ∙ omega (arith, length_file comment rs, length-records rs) in
      drop_at (comment ++ records_bytes rs) (trailer (length rs) (length comment)) (length (file_of comment rs) - 12) e

  parts : file_of comment rs ≡ comment ++ (records_bytes rs ++ trailer (length rs) (length comment))
  unfolding file_of
  parts = append_assoc comment (records_bytes rs) (trailer (length rs) (length comment))

  has-trailer : has_trailer (file_of comment rs) ≡ true
  unfolding has_trailer
  has-trailer =
      let h : 12 ≤ length (file_of comment rs) = omega (arith, length_file comment rs) in
      rw (le-leb 12 (length (file_of comment rs)) h, trailer-is)

  module _ (w : Writable comment rs) where
    count-is : count_of (file_of comment rs) ≡ length rs
    count-is = ap (λ t. number_of (take 4 t)) trailer-is ∙ number_exact 4 (length rs) w.count

    offset-is : offset_of (file_of comment rs) ≡ length comment
    offset-is = ap (λ t. number_of (take 4 (drop 4 t))) trailer-is ∙ number_exact 4 (length comment) w.offset

    trailer-met : meets (file_of comment rs) ≡ true
    trailer-met =
        meets-is (file_of comment rs) (sym count-is) (sym offset-is) (omega (arith, length_file comment rs))

    pub comment_back : take (offset_of (file_of comment rs)) (file_of comment rs) ≡ comment
    unfolding file_of
    comment_back =
        ap (λ n. take n (file_of comment rs)) offset-is ∙ ap (take (length comment)) parts
        ∙ take-append_seam comment (records_bytes rs ++ trailer (length rs) (length comment))

    pub all_back : records_of (file_of comment rs) ≡ rs
    unfolding file_of records_of
    all_back =
        ap (λ n. records_from n (drop (offset_of (file_of comment rs)) (file_of comment rs))) count-is
        ∙ ap (λ n. records_from (length rs) (drop n (file_of comment rs))) offset-is
        ∙ ap (λ l. records_from (length rs) (drop (length comment) l)) parts
        ∙ ap (records_from (length rs)) (drop-append_seam comment (records_bytes rs ++ trailer (length rs) (length comment)))
        ∙ records-back rs (trailer (length rs) (length comment)) w.each

    pub written-opens : first_bad rs ≡ 0 → Opens (file_of comment rs) comment rs
    unfolding open_answer comment_of
    written-opens z =
        record {
          answered = simp (has-trailer, trailer-met, all_back, z);
          counted = count-is;
          placed = offset-is;
          commented = simp (has-trailer, trailer-met, all_back, z, comment_back);
          recorded = all_back;
        }

-- two takes never have the same file
pub one-take :
    (c d : List ℕ) (rs ss : List Record) → Writable c rs → Writable d ss → file_of c rs ≡ file_of d ss → (c ≡ d) × (rs ≡ ss)
one-take c d rs ss v w e = (
  sym (comment_back c rs v) ∙ ap (λ f. take (offset_of f) f) e ∙ comment_back d ss w,
  sym (all_back c rs v) ∙ ap records_of e ∙ all_back d ss w,
)

-- the bytes of the records that are read
bytes_of_records :
    (n : ℕ) (bs : List ℕ) → AreBytes bs → 8 * n ≤ length bs → records_bytes (records_from n bs) ≡ take (8 * n) bs
bytes_of_records zero bs b h = refl
bytes_of_records (suc n) bs b h =
    let k : length (take 8 bs) ≡ 8 = length-take-le 8 bs (omega arith) in
    let s : number_of (take 8 bs) < 2 ^ 64 = rw k at (number-below (take 8 bs) (take_below 8 bs b)) in
    let e : record_bytes (unpacked (number_of (take 8 bs))) ≡ take 8 bs =
    bytes-unpacked (number_of (take 8 bs)) s ∙ bytes_back 8 (take 8 bs) (take_below 8 bs b) k in
    let l : 8 * n ≤ length (drop 8 bs) = simp length-drop (omega arith) in
    let m : 8 * suc n ≡ 8 + 8 * n = omega arith in
    ap (λ x. x ++ records_bytes (records_from n (drop 8 bs))) e
    ∙ ap (λ x. take 8 bs ++ x) (bytes_of_records n (drop 8 bs) (drop-below 8 bs b) l)
    ∙ rw m (sym (take-add 8 (8 * n) bs))

module _ (file : List ℕ) (b : AreBytes file) (d : open_answer file ≡ 0) where
  met : Met file (count_of file) (offset_of file)
  met = done_met file d

  comment_is : comment_of file ≡ take (offset_of file) file
  unfolding comment_of
  comment_is = simp d

  records_are : records_bytes (records_of file) ≡ take (8 * count_of file) (drop (offset_of file) file)
  unfolding records_of
  records_are =
      let h : 8 * count_of file ≤ length (drop (offset_of file) file) = simp length-drop (omega (arith, met.sum)) in
      bytes_of_records (count_of file) (drop (offset_of file) file) (drop-below (offset_of file) file b) h

  last : trailer (count_of file) (offset_of file) ≡ trailer_of file
  last =
      let t = trailer_of file in
      let below : AreBytes t = drop-below (length file - 12) file b in
      let twelve : length t ≡ 12 = length-drop (length file - 12) file ∙ omega (arith, met.sum) in
      let c : bytes_of 4 (count_of file) ≡ take 4 t =
      bytes_back 4 (take 4 t) (take_below 4 t below) (length-take-le 4 t (omega arith)) in
      let eight : length (drop 4 t) ≡ 8 = length-drop 4 t ∙ omega arith in
      let o : bytes_of 4 (offset_of file) ≡ take 4 (drop 4 t) =
      bytes_back 4 (take 4 (drop 4 t)) (take_below 4 (drop 4 t) (drop-below 4 t below)) (length-take-le 4 (drop 4 t) (omega arith)) in
      ap (λ x. x ++ bytes_of 4 (offset_of file) ++ letters) c
      ∙ ap (λ x. take 4 t ++ x ++ letters) o
      ∙ ap (λ x. take 4 t ++ take 4 (drop 4 t) ++ x) (sym (last-letters file met.has))
      ∙ ap (λ x. x ++ drop 8 t) (sym (take-add 4 4 t))
      ∙ take-append-drop 8 t

  lengths : (length (records_of file) ≡ count_of file) × (length (comment_of file) ≡ offset_of file)
  unfolding records_of
  lengths =
      let h : offset_of file ≤ length file = omega (arith, met.sum) in
      (length_from (count_of file) (drop (offset_of file) file), ap length comment_is ∙ length-take-le (offset_of file) file h)

  pub opened-is-written : file_of (comment_of file) (records_of file) ≡ file
  unfolding file_of
  opened-is-written =
      let e : offset_of file + 8 * count_of file ≡ length file - 12 = omega (arith, met.sum) in
      rw (lengths.0, lengths.1, comment_is, records_are, last, ← (take-add (offset_of file) (8 * count_of file) file), e)
      (take-append-drop (length file - 12) file)

-- what a served call has written opens
all-within : (ns : List ℕ) → AllWithin (map unpacked ns)
all-within [] = tt
all-within (n ∷ ns) = (within-unpacked n, all-within ns)

module _ (comment ns before : List ℕ) where
  abbrev rs : List Record
  rs = map unpacked ns

  room-is : room_for comment rs (length before) ≡ true → (length (file_of comment rs) ≤ length before) × Writable comment rs
  room-is e =
      let t = both_true (leb (length (file_of comment rs)) (length before)) _ e in
      let u = both_true (ltb (length rs) (2 ^ 32)) _ t.1 in
      (leb-true _ _ t.0, record { count = ltb-true _ _ u.0; offset = ltb-true _ _ u.1; each = all-within ns })

  served-opens : {after : List ℕ} {answer size bad : ℕ} → Writing comment ns before after answer size bad → answer ≡ 0 → Opens (take size after) comment rs
  unfolding write_answer
  served-opens {after} {size = size} w d = go (eqb (first_bad rs) 0) refl (room_for comment rs (length before)) refl
    where
      go : (p : Bool) → eqb (first_bad rs) 0 ≡ p → (q : Bool) → room_for comment rs (length before) ≡ q → Opens (take size after) comment rs
      go false e q f = absurd (let z = simp e at w.answered in omega (arith, d))
      go true e false f = absurd (let z = simp (e, f) at w.answered in omega (arith, d))
      go true e true f =
          let r = room-is f in
          let s : size ≡ length (file_of comment rs) = simp (e, f) at w.sized in
          let a : after ≡ sets before 0 (file_of comment rs) = simp (e, f) at w.buffer in
          let g : take size after ≡ file_of comment rs = rw (s, a) (front (file_of comment rs) before r.0) in
          rw g (written-opens comment rs r.1 (eqb-true (first_bad rs) 0 e))

pub written_back :
    {comment ns before after : List ℕ} {answer size bad : ℕ} → Writing comment ns before after answer size bad →
    WritesTake comment ns before after answer size bad
written_back {comment} {ns} {before} w = record { writing = w; opens = served-opens comment ns before w }

-- and this is about something: with none bad, and a count and an offset that fit, records and comment are written into every buffer
-- with the room
pub writes :
    (comment ns before : List ℕ) → Writable comment (map unpacked ns) → first_bad (map unpacked ns) ≡ 0 →
    length (file_of comment (map unpacked ns)) ≤ length before →
    Writing comment ns before (sets before 0 (file_of comment (map unpacked ns))) 0 (length (file_of comment (map unpacked ns))) 0
unfolding write_answer
writes comment ns before w z h =
    let a = eq-eqb (first_bad (map unpacked ns)) 0 z in
    let b = le-leb (length (file_of comment (map unpacked ns))) (length before) h in
    let c = lt-ltb (length (map unpacked ns)) (2 ^ 32) w.count in
    let o = lt-ltb (length comment) (2 ^ 32) w.offset in
    record { answered = simp (a, b, c, o); sized = simp (a, b, c, o); bad_number = sym z; buffer = simp (a, b, c, o) }
