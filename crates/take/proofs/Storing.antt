-- What is stored in a buffer: a number, records, a trailer, a file.
use native.Mathlib.Nat.{div-one, div-div-eq-div-mul, pow-suc}
use native.Mathlib.Numerals.{add-one}
use native.Mathlib.Omega.{arith}
use mathlib.Core.Path.{◌≡◌, refl, sym, ◌∙◌, ap}
use mathlib.Core.List.{List, [], ◌∷◌, ◌++◌, map, append-nil}
use Prim.Native.Nat.{ℕ, zero, suc, ◌+◌, ◌*◌, ◌/◌, ◌%◌, ◌^◌, ◌<◌, ◌≤◌}
use lib.ListN.{length, get_or, take, length-append, length-map}
use lib.Seq.{take-suc, take_all, length-take-le}
use Rattle.std.specs.Int.{w64, byte_at, bytes_low_first, to_le_bytes}
use Rattle.std.proofs.lemmas.List.{map-append}
use Rattle.common.specs.Storing.{Puts, PutsIfRoom}
use Rattle.common.proofs.Storing.{then-put, had-room}
use Rattle.take.specs.Bytes.{bytes_of}
use Rattle.take.specs.Record.{record_bytes, unpacked}
use Rattle.take.specs.File.{records_bytes, trailer, file_of}
use Rattle.take.specs.declared.Record.{Record}
use Rattle.take.proofs.Records.{bytes-unpacked}

-- the bytes of a number, as the library has them
low-first : (k i n : ℕ) → bytes_low_first i k n ≡ bytes_of k (n / 256 ^ i)
low-first zero i n = refl
low-first (suc k) i n =
    let next : n / 256 ^ suc i ≡ n / 256 ^ i / 256 = rw (pow-suc, div-div-eq-div-mul) in
    let here : byte_at i n ≡ n / 256 ^ i % 256 = byte_is i n in
    rw (here, low-first k (suc i) n, next)
  where
    byte_is : (i n : ℕ) → byte_at i n ≡ n / 256 ^ i % 256
    byte_is zero n = ap (λ m. m % 256) (sym (div-one n))
    byte_is (suc i) n = refl

-- records
pub length-records : (rs : List Record) → length (records_bytes rs) ≡ 8 * length rs
length-records [] = refl
length-records (r ∷ rs) = omega (arith, length-records rs)

records-append : (rs ss : List Record) → records_bytes (rs ++ ss) ≡ records_bytes rs ++ records_bytes ss
records-append [] ss = refl
records-append (r ∷ rs) ss = rw (records-append rs ss)

-- those before a place are stored, and then the one there
module _ {before out : List ℕ} {offset at i : ℕ} (ns : List ℕ) (p : Puts before offset (records_bytes (map unpacked (take i ns))) out at) where
  pub records-more :
      {bytes after : List ℕ} {next : ℕ} → i < length ns → get_or ns i 0 < 2 ^ 64 → offset + 8 * length ns ≤ length out →
      bytes ≡ to_le_bytes w64 (get_or ns i 0) → PutsIfRoom out at bytes after next →
      Puts before offset (records_bytes (map unpacked (take (i + 1) ns))) after next
  records-more {bytes} {after} {next} l w room e q =
      let n = get_or ns i 0 in
      let whole : bytes ≡ record_bytes (unpacked n) = e ∙ low-first 8 0 n ∙ ap (bytes_of 8) (div-one n) ∙ sym (bytes-unpacked n w) in
      let place : at ≡ offset + 8 * i = p.place ∙ rw (length-records (map unpacked (take i ns)), length-map (take i ns) unpacked, length-take-le i ns (omega arith)) in
      let eight : at + length bytes ≤ length out = rw whole (omega arith) in
      let more : take (i + 1) ns ≡ take i ns ++ (n ∷ []) = rw add-one (take-suc ns i 0 l) in
      rw (more, map-append, records-append, append-nil, ← whole) (then-put p (had-room q eight))

  pub records-all : length ns ≤ i → Puts before offset (records_bytes (map unpacked ns)) out at
  records-all l = let all : take i ns ≡ ns = take_all i ns l in rw all at p

-- a file
pub file_put :
    (comment ns : List ℕ) {l one two after : List ℕ} {offset end size : ℕ} →
    Puts l 0 comment one offset →
    Puts one offset (records_bytes (map unpacked ns)) two end →
    Puts two end (trailer (length ns) offset) after size →
    Puts l 0 (file_of comment (map unpacked ns)) after size
unfolding file_of
file_put comment ns {offset = offset} p q r =
    let n : length ns ≡ length (map unpacked ns) = sym (length-map ns unpacked) in
    let o : offset ≡ length comment = omega (arith, p.place) in
    then-put (then-put p q) (rw (n, o) at r)

pub length_file : (comment : List ℕ) (rs : List Record) → length (file_of comment rs) ≡ length comment + 8 * length rs + 12
unfolding file_of
length_file comment rs =
    let e = length-append (comment ++ records_bytes rs) (trailer (length rs) (length comment)) in
    let f = length-append comment (records_bytes rs) in
    omega (arith, length-records rs)
