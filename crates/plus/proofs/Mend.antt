-- 02, L10: mending's equations give its claim: the words in use afterwards are the mended ones.
use mathlib.Core.Path.{◌≡◌, sym, subst}
use mathlib.Core.List.{List}
use Prim.Native.Nat.{ℕ}
use borrow.Author.Tests.{eq-eqb}
use lib.ListN.{length, take, drop}
use lib.Seq.{take-append_seam}
use Rattle.common.specs.Answers.{done}
use Rattle.mend.specs.declared.Mended.{Mended}
use Rattle.mend.specs.Rule.{in_use_of, mended_list, mended_buffer}
use Rattle.mend.specs.Contract.{Mending, Mends}
use Rattle.mended_play.specs.Sameness.{Sameness}
use Rattle.mended_play.proofs.Claim.{sameness}
use Rattle.plus.specs.Mend.{MendTold}

module _ {buffer : List ℕ} {used : ℕ} {report buffer' report' : List ℕ} {r : Mended} where
  in_use : Mending buffer used report buffer' report' r → r.answer ≡ done → take r.used buffer' ≡ mended_list buffer used
  unfolding mended_buffer
  in_use m z =
      let t = eq-eqb _ _ z in
      rw (m.words, m.buffer-after, t) (take-append_seam (mended_list buffer used) (drop (length (mended_list buffer used)) buffer))

  pub told : Mends buffer used report buffer' report' r → MendTold buffer used report buffer' report' r
  told m = record { call = m; plays = λ z. subst (Sameness (in_use_of buffer used)) (sym (in_use m.mending z)) (sameness (in_use_of buffer used)) }
