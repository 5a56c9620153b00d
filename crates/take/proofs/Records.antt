-- A record, its 8 bytes and its number say the same.
use native.Mathlib.Nat.{div-div-eq-div-mul, mod-eq_of_lt}
use native.Mathlib.Omega.{arith}
use mathlib.Core.Path.{◌≡◌, sym, ◌∙◌, ap}
use mathlib.Core.List.{◌++◌}
use Prim.Native.Nat.{ℕ, ◌+◌, ◌*◌, ◌/◌, ◌%◌, ◌^◌, ◌<◌}
use Rattle.take.specs.Bytes.{AreBytes, bytes_of}
use Rattle.take.specs.Record.{Within, record_bytes, packed, unpacked}
use Rattle.take.specs.declared.Record.{Record}
use Rattle.take.proofs.Numbers.{bytes_below, append-below, number_exact, low, high, bytes-number}

pub within-unpacked : (n : ℕ) → Within (unpacked n)
unfolding unpacked
within-unpacked n = record { line = omega arith; kind = omega arith; address = omega arith; value = omega arith }

-- the number of four parts
abbrev sum : ℕ → ℕ → ℕ → ℕ → ℕ
sum line kind address value = line + (kind + (address + value * 2 ^ 16) * 2 ^ 8) * 2 ^ 32

pub unpacked-sum : (n : ℕ) (r : Record) → Within r → n ≡ sum r.line r.kind r.address r.value → unpacked n ≡ r
unfolding unpacked
unpacked-sum n r w e =
    let line : n % 2 ^ 32 ≡ r.line = ap (λ m. m % 2 ^ 32) e ∙ low r.line _ w.line in
    let rest : n / 2 ^ 32 ≡ r.kind + (r.address + r.value * 2 ^ 16) * 2 ^ 8 = ap (λ m. m / 2 ^ 32) e ∙ high r.line _ w.line in
    let kind : n / 2 ^ 32 % 2 ^ 8 ≡ r.kind = ap (λ m. m % 2 ^ 8) rest ∙ low r.kind _ w.kind in
    let last : n / 2 ^ 40 ≡ r.address + r.value * 2 ^ 16 =
    sym (div-div-eq-div-mul n (2 ^ 32) (2 ^ 8)) ∙ ap (λ m. m / 2 ^ 8) rest ∙ high r.kind _ w.kind in
    let address : n / 2 ^ 40 % 2 ^ 16 ≡ r.address = ap (λ m. m % 2 ^ 16) last ∙ low r.address _ w.address in
    let top : n / 2 ^ 56 ≡ r.value =
    sym (div-div-eq-div-mul n (2 ^ 40) (2 ^ 16)) ∙ ap (λ m. m / 2 ^ 16) last ∙ high r.address _ w.address in
    let value : n / 2 ^ 56 % 2 ^ 8 ≡ r.value = ap (λ m. m % 2 ^ 8) top ∙ mod-eq_of_lt w.value in
    simp (line, kind, address, value)

pub packed-sum : (r : Record) → Within r → packed r ≡ sum r.line r.kind r.address r.value
unfolding packed
packed-sum r w =
    omega (
      arith,
      number_exact 4 r.line w.line,
      number_exact 1 r.kind w.kind,
      number_exact 2 r.address w.address,
      number_exact 1 r.value w.value,
    )

pub unpacked-packed : (r : Record) → Within r → unpacked (packed r) ≡ r
unpacked-packed r w = unpacked-sum (packed r) r w (packed-sum r w)

pub packed-unpacked : (n : ℕ) → n < 2 ^ 64 → packed (unpacked n) ≡ n
unfolding unpacked
packed-unpacked n h =
    let address : n / 2 ^ 32 / 2 ^ 8 ≡ n / 2 ^ 40 = div-div-eq-div-mul n (2 ^ 32) (2 ^ 8) in
    let value : n / 2 ^ 40 / 2 ^ 16 ≡ n / 2 ^ 56 = div-div-eq-div-mul n (2 ^ 40) (2 ^ 16) in
    let top : n / 2 ^ 56 % 2 ^ 8 ≡ n / 2 ^ 56 = omega arith in
    omega (arith, packed-sum (unpacked n) (within-unpacked n))

-- the bytes of a record's number are the record's
pub record_below : (r : Record) → AreBytes (record_bytes r)
record_below r =
    append-below (bytes_of 4 r.line) (bytes_of 1 r.kind ++ bytes_of 2 r.address ++ bytes_of 1 r.value) (bytes_below 4 r.line)
    (append-below (bytes_of 1 r.kind) (bytes_of 2 r.address ++ bytes_of 1 r.value) (bytes_below 1 r.kind)
    (append-below (bytes_of 2 r.address) (bytes_of 1 r.value) (bytes_below 2 r.address) (bytes_below 1 r.value)))

pub bytes_packed : (r : Record) → bytes_of 8 (packed r) ≡ record_bytes r
unfolding packed
bytes_packed r = bytes-number (record_bytes r) (record_below r)

pub bytes-unpacked : (n : ℕ) → n < 2 ^ 64 → record_bytes (unpacked n) ≡ bytes_of 8 n
bytes-unpacked n h = sym (bytes_packed (unpacked n)) ∙ ap (bytes_of 8) (packed-unpacked n h)
