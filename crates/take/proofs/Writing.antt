-- What the writer gives, by its tests.
use borrow.Author.Tests.{eq-eqb, ne_eqb, leb-true, ltb-true}
use native.Mathlib.Omega.{arith}
use mathlib.Core.Path.{◌≡◌, refl, sym, ◌∙◌}
use mathlib.Core.Bool.{Bool, true, false}
use mathlib.Core.List.{List, map}
use Prim.Native.Nat.{ℕ, ◌+◌, ◌*◌, ◌^◌, ◌<◌, ◌≤◌}
use lib.Dec.{leb, ltb, eqb}
use lib.ListN.{length, length-map}
use Rattle.std.specs.Prelude.{Option, None, Some}
use Rattle.std.specs.Option.{unwrap_or}
use Rattle.common.specs.Answers.{done}
use Rattle.common.specs.Refusals.{number}
use Rattle.common.specs.Storing.{Puts}
use Rattle.common.specs.declared.answer.Refusal.{Refusal}
use Rattle.common.proofs.Tests.{both_true}
use Rattle.take.specs.Record.{unpacked, first_bad}
use Rattle.take.specs.File.{file_of}
use Rattle.take.specs.Write.{room_for, write_answer, Writing}
use Rattle.take.specs.Parts.{fitting, measured_answer, FirstBad, Refused}
use Rattle.take.specs.declared.Record.{Record}
use Rattle.take.proofs.Storing.{length_file}

-- what is served has the room, and numbers of 4 bytes
fits-so : (offset count room : ℕ) → fitting offset count room ≡ true → (offset + 8 * count + 12 ≤ room) × (count < 2 ^ 32) × (offset < 2 ^ 32)
unfolding fitting
fits-so offset count room e =
    let t = both_true (leb (offset + 8 * count + 12) room) _ e in
    let u = both_true (ltb count (2 ^ 32)) _ t.1 in
    (leb-true _ _ t.0, ltb-true _ _ u.0, ltb-true _ _ u.1)

pub served-fits :
    (bad : Option ℕ) (offset count room : ℕ) → measured_answer bad offset count room ≡ done →
    (offset + 8 * count + 12 ≤ room) × (count < 2 ^ 32) × (offset < 2 ^ 32)
unfolding measured_answer
served-fits (Some bad) offset count room e = absurd (omega arith)
served-fits None offset count room e = go (fitting offset count room) refl
  where
    go : (f : Bool) → fitting offset count room ≡ f → (offset + 8 * count + 12 ≤ room) × (count < 2 ^ 32) × (offset < 2 ^ 32)
    go true p = fits-so offset count room p
    go false p = absurd (let y = simp p at e in omega arith)

module _ (comment ns before : List ℕ) where
  abbrev rs : List Record
  rs = map unpacked ns

  fits-is : room_for comment rs (length before) ≡ fitting (length comment) (length ns) (length before)
  unfolding fitting
  fits-is =
      let e : length rs ≡ length ns = length-map ns unpacked in
      rw (length_file comment rs, e)

  answer-is : (bad : Option ℕ) → FirstBad rs bad → measured_answer bad (length comment) (length ns) (length before) ≡ write_answer comment rs (length before)
  unfolding measured_answer write_answer
  answer-is None b = simp (b, fits-is)
  answer-is (Some bad) b = let t : eqb (first_bad rs) 0 ≡ false = rw b.0 (ne_eqb bad 0 b.1) in simp t

  bad-is : (bad : Option ℕ) → FirstBad rs bad → unwrap_or bad 0 ≡ first_bad rs
  bad-is None b = sym b
  bad-is (Some bad) b = sym b.0

  none-bad :
      (bad : Option ℕ) → FirstBad rs bad → measured_answer bad (length comment) (length ns) (length before) ≡ done → 0 ≡ first_bad rs
  unfolding measured_answer
  none-bad None b a = sym b
  none-bad (Some bad) b a = absurd (omega arith)

  module _ (bad : Option ℕ) (b : FirstBad rs bad) where
    pub not_written :
        (refusal : Refusal) → Refused (measured_answer bad (length comment) (length ns) (length before)) refusal →
        Writing comment ns before before (number refusal) 0 (unwrap_or bad 0)
    not_written refusal a =
        let t : eqb (write_answer comment rs (length before)) 0 ≡ false = rw (← (answer-is bad b)) a.1 in
        record { answered = sym a.0 ∙ answer-is bad b; sized = simp t; bad_number = bad-is bad b; buffer = simp t }

    pub written :
        {after : List ℕ} {size : ℕ} → measured_answer bad (length comment) (length ns) (length before) ≡ done →
        Puts before 0 (file_of comment rs) after size → Writing comment ns before after 0 size 0
    written {size = size} a p =
        let d : write_answer comment rs (length before) ≡ 0 = sym (answer-is bad b) ∙ a in
        let t : eqb (write_answer comment rs (length before)) 0 ≡ true = eq-eqb _ _ d in
        let s : size ≡ length (file_of comment rs) = omega (arith, p.place) in
        record { answered = sym d; sized = simp t s; bad_number = none-bad bad b a; buffer = simp t p.stored }
