-- A mended word: its kind and its bits, and what mending leaves as it was.
use Rattle.std.proofs.Common.{◌≡◌, refl, ap, ◌∙◌, Bool, true, false, ℕ, ◌+◌, ◌*◌, ◌/◌, ◌%◌, ◌^◌, ◌<◌, ◌≤◌, arith, eqb, eqb-true}
use Rattle.std.specs.Int.Bits.{bit_and, and_zero_r}
use Rattle.std.proofs.lemmas.Nat.{and_block, and_mask}
use Rattle.std.proofs.lemmas.Bool.{eqb-false}
use Rattle.common.specs.Choice.{if, both, of_bool}
use Rattle.words.specs.Words.{kind_of, low12, loop_bit, int_bit, stop_bit, is_repeat, is_control, repeats, loops, stops}
use Rattle.words.specs.declared.WordKind.{WordKind}
use Rattle.words.specs.declared.WordKind.TheVariants.{Load, Pause, Repeat, Control, Nothing}
use Rattle.mend.specs.Rule.{control, nop, mended_as, mended}

-- a control word with no stray bits: its kind and its bits
bits :
    (l i s : Bool) →
    (kind_of (control l i s) ≡ Control) × (loop_bit (low12 (control l i s)) ≡ l) × (int_bit (low12 (control l i s)) ≡ i)
    × (stop_bit (low12 (control l i s)) ≡ s)
unfolding kind_of
bits true true true = (refl, refl, refl, refl)
bits true true false = (refl, refl, refl, refl)
bits true false true = (refl, refl, refl, refl)
bits true false false = (refl, refl, refl, refl)
bits false true true = (refl, refl, refl, refl)
bits false true false = (refl, refl, refl, refl)
bits false false true = (refl, refl, refl, refl)
bits false false false = (refl, refl, refl, refl)

module _ (l i s : Bool) where
  pub control-kind : kind_of (control l i s) ≡ Control
  control-kind = (bits l i s).0

  pub control-loop : loop_bit (low12 (control l i s)) ≡ l
  control-loop = (bits l i s).1

  pub control-int : int_bit (low12 (control l i s)) ≡ i
  control-int = (bits l i s).2

  pub control-stop : stop_bit (low12 (control l i s)) ≡ s
  control-stop = (bits l i s).3

pub plain-kind : kind_of 0x4000 ≡ Control
plain-kind = control-kind false false false

-- 1 for a bit that is set is the bit
bit-value : (x : ℕ) → of_bool (eqb (x % 2) 1) ≡ x % 2
bit-value x = by-test (eqb (x % 2) 1) refl
  where
    by-test : (b : Bool) → eqb (x % 2) 1 ≡ b → of_bool b ≡ x % 2
    by-test true e = omega (arith, eqb-true (x % 2) 1 e)
    by-test false e = omega (arith, eqb-false (x % 2) 1 e)

control-sum : (n : ℕ) → 0x4000 + n % 2 + n / 16 % 2 * 16 + n / 32 % 2 * 32 ≡ control (loop_bit n) (int_bit n) (stop_bit n)
control-sum n = rw (bit-value (n / 2 ^ 0), bit-value (n / 2 ^ 4), bit-value (n / 2 ^ 5)) (omega arith)

-- the three bits and the code of a control word are what is left of it
pub kept : (w : ℕ) → w / 4096 ≡ 4 → bit_and w 0x4031 ≡ mended_as Control w
kept w e =
    let n : ℕ = low12 w in
    let word : w ≡ 4 * 4096 + n = omega arith in
    let low : n ≡ n / 64 * 64 + n % 64 = omega arith in
    let six : n % 64 ≡ n / 16 % 4 * 16 + n % 16 = omega arith in
    let a : bit_and w 0x4031 ≡ 0x4000 + bit_and n 0x31 =
    ap (λ x. bit_and x 0x4031) word ∙ and_block 12 4 4 n 0x31 (omega arith) (omega arith) in
    let b : bit_and n 0x31 ≡ bit_and (n / 64) 0 * 64 + bit_and (n % 64) 0x31 =
    ap (λ x. bit_and x 0x31) low ∙ and_block 6 (n / 64) 0 (n % 64) 0x31 (omega arith) (omega arith) in
    let c : bit_and (n % 64) 0x31 ≡ bit_and (n / 16 % 4) 3 * 16 + bit_and (n % 16) 1 =
    ap (λ x. bit_and x 0x31) six ∙ and_block 4 (n / 16 % 4) 3 (n % 16) 1 (omega arith) (omega arith) in
    let sum : bit_and w 0x4031 ≡ 0x4000 + n % 2 + n / 16 % 2 * 16 + n / 32 % 2 * 32 =
    omega (arith, and_zero_r (n / 64), and_mask (n / 16 % 4) 2, and_mask (n % 16) 1) in
    sum ∙ control-sum n

module _ (w : ℕ) where
  -- the word with its three bits alone
  abbrev bare : ℕ
  bare = control (loop_bit (low12 w)) (int_bit (low12 w)) (stop_bit (low12 w))

  bare-kind : kind_of bare ≡ Control
  bare-kind = control-kind (loop_bit (low12 w)) (int_bit (low12 w)) (stop_bit (low12 w))

  -- a mended word is the word, 4000h in place of a PAUSE of 0 or of a reserved code, or a control word with its three bits alone
  pub by-mended :
      (P : ℕ → Type 0) → (mended w ≡ w → P w) → (kind_of w ≡ Pause → low12 w ≡ 0 → P nop) → (kind_of w ≡ Nothing → P nop) →
      (kind_of w ≡ Control → P bare) → P (mended w)
  unfolding mended
  by-mended P same pause reserved stray = by_kind (kind_of w) refl
    where
      by-pause : (b : Bool) → eqb (low12 w) 0 ≡ b → kind_of w ≡ Pause → P (if b nop w)
      by-pause true f e = pause e (eqb-true (low12 w) 0 f)
      by-pause false f e = same (rw (e, f))

      by_kind : (k : WordKind) → kind_of w ≡ k → P (mended_as k w)
      by_kind Load e = same (rw e)
      by_kind Pause e = by-pause (eqb (low12 w) 0) refl e
      by_kind Repeat e = same (rw e)
      by_kind Control e = stray e
      by_kind Nothing e = reserved e

  mended-is : (P : ℕ → Type 0) → (mended w ≡ w → P w) → ((l i s : Bool) → P (control l i s)) → P (mended w)
  mended-is P same made =
      by-mended P same (λ e z. made false false false) (λ e. made false false false)
      (λ e. made (loop_bit (low12 w)) (int_bit (low12 w)) (stop_bit (low12 w)))

  -- what a kind and low bits give is the same of the mended word, if 4000h gives what a PAUSE of 0 and a reserved code give, and stray
  -- bits change nothing
  pub mended-same :
      {A : Type 0} (f : WordKind → ℕ → A) → f Control 0 ≡ f Pause 0 → f Control 0 ≡ f Nothing (low12 w) →
      f Control (low12 bare) ≡ f Control (low12 w) → f (kind_of (mended w)) (low12 (mended w)) ≡ f (kind_of w) (low12 w)
  mended-same f pause reserved stray =
      by-mended (λ m. f (kind_of m) (low12 m) ≡ f (kind_of w) (low12 w)) (λ e. refl) (λ e z. rw (plain-kind, e, z) pause)
      (λ e. rw (plain-kind, e) reserved) (λ e. rw (bare-kind, e) stray)

  pub mended-stops : stops (mended w) ≡ stops w
  unfolding stops
  mended-stops =
      mended-same (λ k n. both (is_control k) (stop_bit n)) refl refl
      (control-stop (loop_bit (low12 w)) (int_bit (low12 w)) (stop_bit (low12 w)))

  pub mended-loops : loops (mended w) ≡ loops w
  unfolding loops
  mended-loops =
      mended-same (λ k n. both (is_control k) (loop_bit n)) refl refl
      (control-loop (loop_bit (low12 w)) (int_bit (low12 w)) (stop_bit (low12 w)))

  pub mended-repeats : repeats (mended w) ≡ repeats w
  unfolding repeats
  mended-repeats = mended-same (λ k n. is_repeat k) refl refl refl

-- mending again
pub control-mended : (l i s : Bool) → mended (control l i s) ≡ control l i s
unfolding mended
control-mended l i s = rw (control-kind l i s, control-loop l i s, control-int l i s, control-stop l i s)

pub mended-twice : (w : ℕ) → mended (mended w) ≡ mended w
mended-twice w = mended-is w (λ m. mended m ≡ m) (λ e. e) control-mended

-- a mended word has 16 bits
bit-most : (b : Bool) → of_bool b ≤ 1
bit-most true = omega arith
bit-most false = omega arith

control-below : (l i s : Bool) → control l i s < 65536
control-below l i s = omega (arith, bit-most l, bit-most i, bit-most s)

pub mended-below : (w : ℕ) → w < 65536 → mended w < 65536
mended-below w h = mended-is w (λ m. m < 65536) (λ e. h) control-below
