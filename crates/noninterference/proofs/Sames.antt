-- Two lists that are the same where it counts.
use mathlib.Core.Path.{◌≡◌, refl, sym, ◌∙◌}
use mathlib.Core.Bool.{Bool, true, false}
use mathlib.Core.List.{List}
use Prim.Native.Nat.{ℕ}
use native.Mathlib.Omega.{arith}
use lib.ListN.{length, get_or, set, length-set}
use lib.Seq.{get_or-set_other}
use Rattle.runs.proofs.Pairs.{both-set}

pub record Same {A : Type 0} (own : ℕ → Bool) (d : A) (l m : List A) : Type 0 where
  pub size : length l ≡ length m
  pub each : (n : ℕ) → own n ≡ true → get_or l n d ≡ get_or m n d

pub clash : {A : Type 0} {b : Bool} → b ≡ true → b ≡ false → A
clash p q = absurd (let z : ◌≡◌ {A = ℕ} 0 1 = cc in omega arith)

module _ {A : Type 0} {own : ℕ → Bool} {d : A} where
  pub same_self : (l : List A) → Same own d l l
  same_self l = record { size = refl; each = λ n h. refl }

  pub same_back : {l m : List A} → Same own d l m → Same own d m l
  same_back s = record { size = sym s.size; each = λ n h. sym (s.each n h) }

  pub same-on : {l m k : List A} → Same own d l m → Same own d m k → Same own d l k
  same-on s r = record { size = s.size ∙ r.size; each = λ n h. s.each n h ∙ r.each n h }

  -- a place that does not count
  pub same-other : (l : List A) (n : ℕ) (y : A) → own n ≡ false → Same own d l (set l n y)
  same-other l n y h =
      record {
        size = sym (length-set l n y);
        each = λ k o. sym (get_or-set_other l n k y d (λ e. clash o (rw e h)));
      }

-- the same place set
pub same_set : {A : Type 0} {own : ℕ → Bool} {d : A} {l m : List A} (n : ℕ) (y z : A) → Same own d l m → (own n ≡ true → y ≡ z) →
    Same own d (set l n y) (set m n z)
same_set {l = l} {m = m} n y z s h =
    record {
      size = length-set l n y ∙ s.size ∙ sym (length-set m n z);
      each = λ k o. both-set (λ x w. x ≡ w) l m n k y z _ s.size (s.each k o) (λ e. h (rw e at o));
    }
