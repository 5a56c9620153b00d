-- The code's own: what is left of a text behind bytes with which it begins; none is left where it does not begin with them.
use Rattle.std.specs.Prelude.{◌≡◌, ◌≢◌, List, ◌++◌, ℕ, Option, Some, None, MatchOption}
use Rattle.std.specs.Borrow.{Bor}
use Rattle.std.proofs.Common.{sym, ◌∙◌, ap, append_assoc}
use Rattle.std.proofs.lemmas.List.{append_cancel_left}

abbrev pub Stripped : List ℕ → List ℕ → Option (Bor (List ℕ)) → Type 0
Stripped text bytes rest = MatchOption rest ((more : List ℕ) → text ≢ bytes ++ more) (λ r. text ≡ bytes ++ r.now)

-- the same of a rest, which may be none
abbrev pub Strips : Option (Bor (List ℕ)) → List ℕ → Option (Bor (List ℕ)) → Type 0
Strips None bytes after = after ≡ None
Strips (Some text) bytes after = Stripped text.now bytes after

-- bytes behind bytes are stripped as if they came at once
pub then-strip : (s t u : Option (Bor (List ℕ))) (a b : List ℕ) → Strips s a t → Strips t b u → Strips s (a ++ b) u
then-strip None None u a b p q = q
then-strip None (Some t) u a b p q = cc
then-strip (Some s) None None a b p q = λ more e. p (b ++ more) (e ∙ append_assoc a b more)
then-strip (Some s) None (Some u) a b p q = cc
then-strip (Some s) (Some t) None a b p q =
    λ more e. q more (append_cancel_left a t.now (b ++ more) (sym p ∙ e ∙ append_assoc a b more))
then-strip (Some s) (Some t) (Some u) a b p q = p ∙ ap (λ l. a ++ l) q ∙ sym (append_assoc a b u.now)
