-- What the tests on bounds, lengths and handles say.
use Rattle.std.proofs.Common.{◌≡◌, ℕ, ◌-◌, ◌%◌, ◌<◌, ◌≤◌, true, eqb, ltb, eqb-true, ltb-true, leb-true}
use Rattle.common.specs.Sizes.{ram_bytes}
use Rattle.common.proofs.Tests.{both_true}
use Rattle.lists.specs.Area.{proper, lower, upper, standing, has}
use Rattle.lists.specs.Place.{askable}
use Rattle.lists.specs.Remove.{taken}
use Rattle.lists.specs.declared.Area.{Area}

pub record Proper (from upto : ℕ) : Type 0 where
  pub from-even : from % 2 ≡ 0
  pub upto-even : upto % 2 ≡ 0
  pub order : from < upto
  pub small : upto ≤ ram_bytes

pub proper-is : (from upto : ℕ) → proper from upto ≡ true → Proper from upto
unfolding proper
proper-is from upto h =
    let t = both_true (eqb (from % 2) 0) _ h in
    let u = both_true (eqb (upto % 2) 0) _ t.1 in
    let v = both_true (ltb from upto) _ u.1 in
    record {
      from-even = eqb-true _ _ t.0;
      upto-even = eqb-true _ _ u.0;
      order = ltb-true _ _ v.0;
      small = leb-true _ _ v.1;
    }

pub standing-is : (area : Area) → standing area ≡ true → Proper (lower area) (upper area)
unfolding standing
standing-is area h = proper-is (lower area) (upper area) h

pub record Askable (area : Area) (bytes : ℕ) : Type 0 where
  pub proper : Proper (lower area) (upper area)
  pub some : 0 < bytes
  pub even : bytes % 2 ≡ 0
  pub small : bytes ≤ upper area - lower area

pub askable-is : (area : Area) (bytes : ℕ) → askable area bytes ≡ true → Askable area bytes
unfolding askable
askable-is area bytes h =
    let t = both_true (standing area) _ h in
    let u = both_true (ltb 0 bytes) _ t.1 in
    let v = both_true (eqb (bytes % 2) 0) _ u.1 in
    record {
      proper = standing-is area t.0;
      some = ltb-true _ _ u.0;
      even = eqb-true _ _ v.0;
      small = leb-true _ _ v.1;
    }

pub taken_is : (area : Area) (handle : ℕ) → taken area handle ≡ true → (handle < 64) × (has area handle ≡ true)
unfolding taken
taken_is area handle h =
    let t = both_true (ltb handle 64) _ h in
    (ltb-true _ _ t.0, t.1)
