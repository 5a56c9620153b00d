-- The search for room: one list passed, all of them once, and the lowest address that is clear of them.
use Rattle.std.proofs.Common.{◌≡◌, ℕ, ◌+◌, ◌%◌, ◌<◌, ◌≤◌, max, true, false, List, inl, inr, ⊎_elim, arith, below_more}
use Rattle.std.proofs.Math.Nat.{lt_of_not-le}
use Rattle.common.specs.Choice.{bit}
use Rattle.common.specs.Sizes.{ram_bytes}
use Rattle.common.proofs.Tests.{clash}
use Rattle.lists.specs.declared.Sought.{Sought}
use Rattle.lists.specs.Room.{start_of, end_of, place_at}
use Rattle.lists.specs.Search.{Aside, Past, Clear, Passed}

pub start-even : (p : ℕ) → start_of p % 2 ≡ 0
unfolding start_of
start-even p = omega arith

pub end_even : (p : ℕ) → end_of p % 2 ≡ 0
unfolding end_of
end_even p = omega arith

-- a list that is not above the address: the address goes to its end, unless it is there or higher already
pub past_end :
    {p bytes : ℕ} {at : Sought} → at.address ≤ ram_bytes → end_of p ≤ ram_bytes → start_of p < at.address + bytes →
    Past p bytes at (record { address = max at.address (end_of p); above = at.above })
past_end {p} {bytes} {at} small fits low =
    record {
      up = omega arith;
      down = omega arith;
      bound = omega arith;
      even = λ e. omega (arith, end_even p);
      low = λ b g. ⊎_elim (λ w. absurd (omega arith)) (λ w. omega arith);
      aside = inl (omega arith);
      still = λ e g. g;
    }

-- a list that was aside stays so, as the address goes up and the other down
aside-on :
    (p : ℕ) {before after : Sought} → before.address ≤ after.address → after.above ≤ before.above → Aside p before → Aside p after
aside-on p up down = ⊎_elim (λ h. inl (omega arith)) (λ h. inr (omega arith))

-- the search so far: no address from the bound up to here is clear
pub record SoughtTo (used : ℕ) (places : List ℕ) (bytes from a : ℕ) : Type 0 where
  pub even : a % 2 ≡ 0
  pub above : from ≤ a
  pub bound : a ≤ ram_bytes
  pub low : (b : ℕ) → from ≤ b → Clear used places bytes b → a ≤ b

module _ {used : ℕ} {places : List ℕ} {bytes from : ℕ} where
  pub passed-more :
      {n : ℕ} {at next : Sought} → n < 64 → bit n used ≡ true → Passed used places bytes from n at →
      Past (place_at places n) bytes at next → Passed used places bytes from (n + 1) next
  passed-more {n} {at} {next} inside on before one =
      record {
        up = omega (arith, before.up, one.up);
        bound = one.bound;
        even = λ e. one.even (before.even e);
        low = λ b g clear. one.low b (before.low b g clear) (clear.between n inside on);
        aside = below_more _ n (λ k h t. aside-on (place_at places k) one.up one.down (before.aside k h t)) (λ t. one.aside);
        still =
            λ e.
            let same : at.address ≡ from = omega (arith, before.up, one.up) in
            let room = before.still same in
            omega (arith, same, one.still (omega arith) (omega arith));
      }

  -- places whose bits are all 0 move nothing
  pub passed-rest :
      {n m : ℕ} {at : Sought} → ((k : ℕ) → n ≤ k → k < m → bit k used ≡ false) → Passed used places bytes from n at →
      Passed used places bytes from m at
  passed-rest {n} off before =
      record {
        up = before.up;
        bound = before.bound;
        even = before.even;
        low = before.low;
        aside = λ k h on. before.aside k (lt_of_not-le (λ g. clash on (off k g h))) on;
        still = before.still;
      }
