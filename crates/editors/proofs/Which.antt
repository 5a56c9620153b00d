-- Of two editors, one is this one or the other.
use mathlib.Core.Path.{◌≡◌, refl}
use mathlib.Core.Bool.{true, false}
use Rattle.editors.specs.declared.Editor.{Editor}
use Rattle.editors.specs.declared.Editor.TheVariants.{Song, Picture}
use Rattle.editors.specs.Table.{other, same}

pub data Which (e : Editor) : Editor → Type 0 where
  own : Which e e
  another : Which e (other e)

pub which : (e f : Editor) → Which e f
which Song Song = own
which Song Picture = another
which Picture Song = another
which Picture Picture = own

pub same_self : (e : Editor) → same e e ≡ true
same_self Song = refl
same_self Picture = refl

pub same-other : (e : Editor) → same e (other e) ≡ false
same-other Song = refl
same-other Picture = refl
