-- 02, L5: a register at an address that can be written and whose writes are kept has contents.
use mathlib.Core.Path.{◌≡◌, refl}
use mathlib.Core.Bool.{Bool, true, false}
use Prim.Native.Nat.{ℕ, suc, ◌/◌, ◌%◌, ◌-◌, ◌<◌}
use native.Mathlib.Omega.{arith}
use borrow.Author.Tests.{ltb-true, ltb-false, leb-false}
use lib.Dec.{eqb, leb, ltb}
use Rattle.common.specs.Answers.{done}
use Rattle.common.specs.Choice.{if}
use Rattle.editors.specs.declared.Editor.{Editor}
use Rattle.editors.specs.declared.Table.{Table}
use Rattle.registers.specs.declared.address.Register.{Register}
use Rattle.registers.specs.Address.{register_at, sprite_at, video_at, channel_at}
use Rattle.registers.specs.Registers.{register_answer}
use Rattle.contents.specs.Contents.{Holds}
use Rattle.page.specs.UndoRecord.{is_kept}

-- a register that stands at an address and is kept holds contents
abbrev Fine : Table → Editor → Register → Type 0
Fine t ed x = register_answer t ed x ≡ done → is_kept x ≡ true → Holds x

not_kept : {A : Type 0} → false ≡ true → A
not_kept e = absurd (let z : ◌≡◌ {A = ℕ} 0 1 = cc in omega arith)

refused : {A : Type 0} {n : ℕ} → suc n ≡ 0 → A
refused e = absurd (omega arith)

-- a place of a sprite is below 5
small : (p : ℕ) → if (ltb p 4) p 4 < 5
small p = go (ltb p 4) refl
  where
    go : (t : Bool) → ltb p 4 ≡ t → if t p 4 < 5
    go true e = omega (arith, ltb-true p 4 e)
    go false e = omega arith

module _ (t : Table) (ed : Editor) where
  test : (b : Bool) (x y : Register) → (b ≡ true → Fine t ed x) → (b ≡ false → Fine t ed y) → Fine t ed (if b x y)
  test true x y f g = f refl
  test false x y f g = g refl

  sprite_fine : (o : ℕ) → o < 128 → Fine t ed (sprite_at o)
  unfolding sprite_at
  sprite_fine o h w k = (omega arith, small (o % 8))

  video_fine : (o : ℕ) → Fine t ed (video_at o)
  unfolding video_at
  video_fine o =
      test (eqb o 0) _ _ (λ e w k. tt)
      (λ e. test (eqb o 1) _ _ (λ e w k. tt)
      (λ e. test (eqb o 2) _ _ (λ e w k. tt)
      (λ e. test (eqb o 3) _ _ (λ e w k. tt)
      (λ e. test (eqb o 4) _ _ (λ e w k. tt)
      (λ e. test (eqb o 5) _ _ (λ e w k. tt)
      (λ e. test (eqb o 6) _ _ (λ e w k. refused w) (λ e. test (eqb o 7) _ _ (λ e w k. refused w) (λ e w k. refused w))))))))

  channel_fine : (o : ℕ) → Fine t ed (channel_at o)
  unfolding channel_at
  channel_fine o =
      test (eqb o 15) _ _ (λ e w k. not_kept k)
      (λ e. test (leb 12 o) _ _ (λ e w k. refused w)
      (λ f. let h : o / 4 < 3 = omega (arith, leb-false 12 o f) in
      test (eqb (o % 4) 0) _ _ (λ e w k. h)
      (λ e. test (eqb (o % 4) 1) _ _ (λ e w k. h) (λ e. test (eqb (o % 4) 2) _ _ (λ e w k. h) (λ e w k. refused w)))))

  pub holds_at : (a : ℕ) → register_answer t ed (register_at a) ≡ done → is_kept (register_at a) ≡ true → Holds (register_at a)
  unfolding register_at
  holds_at a =
      test (ltb a 0x4000) _ _ (λ e w k. refused w)
      (λ low. test (ltb a 0x5000) _ _ (λ e w k. omega (arith, ltb-false a 0x4000 low, ltb-true a 0x5000 e))
      (λ e. test (ltb a 0x6000) _ _ (λ e w k. refused w)
      (λ low. test (ltb a 0x6080) _ _ (λ e. sprite_fine (a - 0x6000) (omega (arith, ltb-false a 0x6000 low, ltb-true a 0x6080 e)))
      (λ e. test (ltb a 0x6400) _ _ (λ e w k. refused w)
      (λ low. test (ltb a 0x6440) _ _ (λ e w k. omega (arith, ltb-false a 0x6400 low, ltb-true a 0x6440 e))
      (λ e. test (ltb a 0x6800) _ _ (λ e w k. refused w)
      (λ e. test (ltb a 0x6810) _ _ (λ e. video_fine (a - 0x6800))
      (λ e. test (ltb a 0x6c00) _ _ (λ e w k. refused w)
      (λ e. test (ltb a 0x6c10) _ _ (λ e. channel_fine (a - 0x6c00)) (λ e w k. refused w))))))))))
