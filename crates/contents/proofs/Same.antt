-- Two registers are the same or they are not.
use mathlib.Core.Path.{◌≡◌, refl, ap}
use mathlib.Core.Bool.{Bool, true, false}
use lib.Dec.{eqb}
use borrow.Author.Tests.{eqb-true, eqb-false}
use Rattle.registers.specs.declared.address.Register.{Register}
use Rattle.contents.proofs.Blocks.{place_of, same_register}

pub either_register : {P : Type 0} (x y : Register) → (y ≡ x → P) → ((y ≡ x → ⊥) → P) → P
either_register {P} x y same other =
    go (eqb (place_of y).block (place_of x).block) refl (eqb (place_of y).unit (place_of x).unit) refl
    (eqb (place_of y).byte (place_of x).byte) refl
  where
    go :
        (b : Bool) → eqb (place_of y).block (place_of x).block ≡ b → (u : Bool) → eqb (place_of y).unit (place_of x).unit ≡ u →
        (k : Bool) → eqb (place_of y).byte (place_of x).byte ≡ k → P
    go true e true f true g = same (same_register x y (eqb-true _ _ e) (eqb-true _ _ f) (eqb-true _ _ g))
    go true e true f false g = other (λ q. eqb-false _ _ g (ap (λ (z : Register). (place_of z).byte) q))
    go true e false f k g = other (λ q. eqb-false _ _ f (ap (λ (z : Register). (place_of z).unit) q))
    go false e u f k g = other (λ q. eqb-false _ _ e (ap (λ (z : Register). (place_of z).block) q))
