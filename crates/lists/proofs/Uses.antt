-- A list in use: the rule's cases, and that what the code finds from address, mark and loop counter is the rule.
use Rattle.std.proofs.Common.{◌≡◌, ℕ, ◌+◌, ◌-◌, ◌*◌, ◌/◌, ◌%◌, ◌<◌, ◌≤◌, Bool, true, false, ◌&&◌, leb, ltb, sym, ◌∙◌, ⊎_elim, arith, ltb-true, leb-true, lt-ltb, le-leb, nat_cmp, is_le, is_lt}
use Rattle.std.proofs.lemmas.Bool.Decides.{nat_tests}
use Rattle.common.proofs.Order.{either_side}
use Rattle.common.specs.Choice.{both, either}
use Rattle.common.proofs.Tests.{both_true, either_true, or_true, same_test, clash}
use Rattle.common.proofs.Words.{any_at, some_at}
use Rattle.lists.specs.InUse.{within, word_within, uses}
use Rattle.lists.specs.Search.{meets}

-- the cases of the rule; here w may be any address from the mark on, which makes no difference for a list of whole words
pub data Uses (s e address mark counter : ℕ) : Type 0 where
  by_address : s ≤ address → address < e → Uses s e address mark counter
  by-mark : 0 < counter → s ≤ mark → mark < e → Uses s e address mark counter
  by_word : (w : ℕ) → 0 < counter → mark < address → mark ≤ w → w ≤ address → s ≤ w → w < e → Uses s e address mark counter

inside : {s e a : ℕ} → within s e a ≡ true → (s ≤ a) × (a < e)
inside {s} {e} {a} t = let u = both_true (leb s a) _ t in (leb-true _ _ u.0, ltb-true _ _ u.1)

outside_in : {s e a : ℕ} → s ≤ a → a < e → within s e a ≡ true
outside_in {s} {e} {a} g h = simp (le-leb s a g, lt-ltb a e h)

module _ (s e address mark counter : ℕ) where
  -- what the rule says after the address
  loops : Bool
  loops = both (ltb 0 counter) (either (within s e mark) (both (ltb mark address) (word_within s e mark address)))

  pub uses_case : uses s e address mark counter ≡ true → Uses s e address mark counter
  unfolding uses loops
  uses_case t = ⊎_elim (λ h. let u = inside h in by_address u.0 u.1) looping (either_true (within s e address) loops t)
    where
      word : (b : 0 < counter) → both (ltb mark address) (word_within s e mark address) ≡ true → Uses s e address mark counter
      word b h =
          let u = both_true (ltb mark address) _ h in
          let k = some_at (within s e) ((address - mark) / 2 + 1) mark u.1 in
          let i = inside k.holds in
          by_word (mark + k.place * 2) b (ltb-true _ _ u.0) (omega arith) (omega (arith, k.below, ltb-true mark address u.0)) i.0 i.1

      looping : loops ≡ true → Uses s e address mark counter
      looping h =
          let u = both_true (ltb 0 counter) _ h in
          let b = ltb-true _ _ u.0 in
          ⊎_elim (λ m. let i = inside m in by-mark b i.0 i.1) (word b) (either_true (within s e mark) _ u.1)

  module _ (even : s % 2 ≡ 0) (even' : e % 2 ≡ 0) where
    by_loop : 0 < counter → either (within s e mark) (both (ltb mark address) (word_within s e mark address)) ≡ true → uses s e address mark counter ≡ true
    unfolding uses loops
    by_loop b h = rw (lt-ltb 0 counter b, h) (or_true (within s e address))

    here : s ≤ address → address < e → uses s e address mark counter ≡ true
    unfolding uses
    here g h = rw (outside_in g h)

    at-word : (i : ℕ) → 0 < counter → mark < address → mark + i * 2 ≤ address → s ≤ mark + i * 2 → mark + i * 2 < e → uses s e address mark counter ≡ true
    at-word i b l m g h =
        let any : word_within s e mark address ≡ true = any_at (within s e) i ((address - mark) / 2 + 1) mark (omega arith) (outside_in g h) in
        by_loop b (rw (lt-ltb mark address l, any) (or_true (within s e mark)))

    pub case_uses : Uses s e address mark counter → uses s e address mark counter ≡ true
    case_uses (by_address g h) = here g h
    case_uses (by-mark b g h) = by_loop b (rw (outside_in g h))
    case_uses (by_word w b l m n g h) =
        let i = (w - mark) / 2 in
        either_side 0 ((w - mark) % 2)
        (λ odd.
        either_side s w (λ k. at-word i b l (omega arith) (omega arith) (omega arith))
        (λ k.
        either_side s address (λ j. at-word (i + 1) b l (omega arith) (omega arith) (omega arith))
        (λ j. here (omega arith) (omega arith))))
        (λ same. at-word i b l (omega arith) (omega arith) (omega arith))

-- a test that says so
pub record TestsUse (s e address mark counter : ℕ) (r : Bool) : Type 0 where
  used : r ≡ true → Uses s e address mark counter
  told : Uses s e address mark counter → r ≡ true

-- is the rule, for a list of whole words
pub tests-rule :
    {s e address mark counter : ℕ} {r : Bool} → TestsUse s e address mark counter r → s % 2 ≡ 0 → e % 2 ≡ 0 → r ≡ uses s e address mark counter
tests-rule {s} {e} {address} {mark} {counter} {r} t even even' =
    same_test r _ (λ h. case_uses s e address mark counter even even' (t.used h)) (λ h. t.told (uses_case s e address mark counter h))

-- the library's test whether an address lies in a range
pub range_within : (s e a : ℕ) {r : Bool} → r ≡ (is_le (nat_cmp s a) && is_lt (nat_cmp a e)) → r ≡ within s e a
range_within s e a is = grind (arith, nat_tests)

-- the test on a stretch of addresses, both ways
record Meets (s e low high : ℕ) : Type 0 where
  some : s < e
  reached : s ≤ high
  left : low < e

meets-is : {s e low high : ℕ} {r : Bool} → r ≡ meets s e low high → r ≡ true → Meets s e low high
unfolding meets
meets-is {s} {e} {low} {high} is t =
    let u = both_true (ltb s e) _ (sym is ∙ t) in
    let v = both_true (leb s high) _ u.1 in
    record { some = ltb-true _ _ u.0; reached = leb-true _ _ v.0; left = ltb-true _ _ v.1 }

meets-told : {s e low high : ℕ} {r : Bool} → r ≡ meets s e low high → s < e → s ≤ high → low < e → r ≡ true
unfolding meets
meets-told {s} {e} {low} {high} is g h i = is ∙ simp (lt-ltb s e g, le-leb s high h, lt-ltb low e i)

module _ {s e address mark counter : ℕ} {r : Bool} where
  -- with the loop counter at 0 the address alone counts
  pub by_one : counter ≡ 0 → r ≡ within s e address → TestsUse s e address mark counter r
  by_one none is = record { used = λ t. let u = inside (sym is ∙ t) in by_address u.0 u.1; told = told }
    where
      told : Uses s e address mark counter → r ≡ true
      told (by_address g h) = is ∙ outside_in g h
      told (by-mark some g h) = absurd (omega arith)
      told (by_word w some low g h i j) = absurd (omega arith)

  -- with the mark lower, the words from there up to the address, both with them
  pub by-words : (counter ≡ 0 → ⊥) → mark < address → r ≡ meets s e mark address → TestsUse s e address mark counter r
  by-words some low is = record { used = λ t. used (meets-is is t); told = told }
    where
      used : Meets s e mark address → Uses s e address mark counter
      used m =
          either_side s mark (λ g. by-mark (omega (arith, some)) (omega arith) m.left)
          (λ g. by_word s (omega (arith, some)) low g m.reached (omega arith) m.some)

      told : Uses s e address mark counter → r ≡ true
      told (by_address g h) = meets-told is (omega arith) g (omega arith)
      told (by-mark some g h) = meets-told is (omega arith) (omega arith) h
      told (by_word w some low g h i j) = meets-told is (omega arith) (omega arith) (omega arith)

  -- else the mark, or the address
  pub by_the_mark : (counter ≡ 0 → ⊥) → r ≡ true → r ≡ within s e mark → TestsUse s e address mark counter r
  by_the_mark some t is = record { used = λ u. let n = inside (sym is ∙ t) in by-mark (omega (arith, some)) n.0 n.1; told = λ u. t }

  pub by-neither :
      {m : Bool} → address ≤ mark → m ≡ false → m ≡ within s e mark → r ≡ within s e address → TestsUse s e address mark counter r
  by-neither high off is-m is = record { used = λ t. let u = inside (sym is ∙ t) in by_address u.0 u.1; told = told }
    where
      told : Uses s e address mark counter → r ≡ true
      told (by_address g h) = is ∙ outside_in g h
      told (by-mark some g h) = absurd (clash (is-m ∙ outside_in g h) off)
      told (by_word w some low g h i j) = absurd (omega arith)
