-- Laws of numbers as bytes, over the width.
use native.Mathlib.Nat.{zero-add, suc-add, mul-one, add-mul, mul_assoc}
use native.Mathlib.Nat.{pow-le-pow_right, pow-suc, mod-one, mod-eq_of_lt, div-eq_of_lt, add-mul-mod_self_right, add-mul-div_right}
use native.Mathlib.Omega.{arith}
use mathlib.Core.Path.{◌≡◌, refl, sym, ◌∙◌}
use mathlib.Core.List.{List, [], ◌∷◌, ◌++◌}
use Prim.Native.Nat.{ℕ, zero, suc, ◌+◌, ◌*◌, ◌/◌, ◌%◌, ◌^◌, ◌<◌}
use lib.Arith.{mod-mul}
use lib.ListN.{length, take, drop}
use lib.Seq.{take-nil, drop-drop, get_or-drop}
use Rattle.take.specs.Bytes.{AreBytes, bytes_of, number_of}

pub bytes_below : (k n : ℕ) → AreBytes (bytes_of k n)
bytes_below zero n i = omega arith
bytes_below (suc k) n zero = omega arith
bytes_below (suc k) n (suc i) = bytes_below k (n / 256) i

below-cons : (x : ℕ) (bs : List ℕ) → x < 256 → AreBytes bs → AreBytes (x ∷ bs)
below-cons x bs h g zero = h
below-cons x bs h g (suc i) = g i

pub append-below : (a b : List ℕ) → AreBytes a → AreBytes b → AreBytes (a ++ b)
append-below [] b g h = h
append-below (x ∷ a) b g h = below-cons x (a ++ b) (g 0) (append-below a b (λ i. g (suc i)) h)

pub drop-below : (n : ℕ) (bs : List ℕ) → AreBytes bs → AreBytes (drop n bs)
drop-below n bs h i = rw get_or-drop (h (n + i))

pub take_below : (n : ℕ) (bs : List ℕ) → AreBytes bs → AreBytes (take n bs)
take_below zero bs h = λ i. omega arith
take_below (suc n) [] h = λ i. omega arith
take_below (suc n) (b ∷ bs) h = below-cons b (take n bs) (h 0) (take_below n bs (λ i. h (suc i)))

pow_pos : (k : ℕ) → 0 < 256 ^ k
pow_pos k = pow-le-pow_right {n = 256} (omega arith) {i = 0} {j = k} (omega arith)

-- the number that the low bytes of a number say
pub number-bytes : (k n : ℕ) → number_of (bytes_of k n) ≡ n % 256 ^ k
number-bytes zero n = sym (mod-one n)
number-bytes (suc k) n =
    let split : n % (256 ^ k * 256) ≡ n / 256 % 256 ^ k * 256 + n % 256 = mod-mul n (pow_pos k) (omega arith) in
    rw (pow-suc, number-bytes k (n / 256)) (omega arith)

pub number_exact : (k n : ℕ) → n < 256 ^ k → number_of (bytes_of k n) ≡ n
number_exact k n h = number-bytes k n ∙ mod-eq_of_lt h

-- a number of a low part and a rest
pub low : (a b : ℕ) {m : ℕ} → a < m → (a + b * m) % m ≡ a
low a b {m} h = add-mul-mod_self_right a b m ∙ mod-eq_of_lt h

pub high : (a b : ℕ) {m : ℕ} → a < m → (a + b * m) / m ≡ b
high a b {m} h =
    let pos : 0 < m = omega arith in
    add-mul-div_right a b pos ∙ rw (div-eq_of_lt h, zero-add)

-- the bytes of the number that bytes say
pub bytes-number : (bs : List ℕ) → AreBytes bs → bytes_of (length bs) (number_of bs) ≡ bs
bytes-number [] h = refl
bytes-number (b ∷ bs) h =
    simp (low b (number_of bs) (h 0), high b (number_of bs) (h 0), bytes-number bs (λ i. h (suc i)))

pub bytes_back : (k : ℕ) (bs : List ℕ) → AreBytes bs → length bs ≡ k → bytes_of k (number_of bs) ≡ bs
bytes_back k bs h e = rw (← e) (bytes-number bs h)

pub number-below : (bs : List ℕ) → AreBytes bs → number_of bs < 256 ^ length bs
number-below [] h = omega arith
number-below (b ∷ bs) h = rw pow-suc (omega (arith, h 0, number-below bs (λ i. h (suc i))))

-- so many bytes from a place on, in two parts
number-parts :
    (j k : ℕ) (bs : List ℕ) → number_of (take (j + k) bs) ≡ number_of (take j bs) + number_of (take k (drop j bs)) * 256 ^ j
number-parts zero k bs = simp (zero-add, mul-one)
number-parts (suc j) k [] = simp take-nil (omega arith)
number-parts (suc j) k (b ∷ bs) = rw (suc-add, number-parts j k bs, pow-suc, add-mul, mul_assoc) (omega arith)

pub number-from :
    (j k at : ℕ) (bs : List ℕ) →
    number_of (take (j + k) (drop at bs)) ≡ number_of (take j (drop at bs)) + number_of (take k (drop (at + j) bs)) * 256 ^ j
number-from j k at bs = rw (← (drop-drop j at bs)) (number-parts j k (drop at bs))
