-- The source that an acknowledge serves.
use mathlib.Core.Path.{◌≡◌, refl}
use mathlib.Core.Bool.{Bool, true, false, not}
use native.Mathlib.Omega.{arith}
use borrow.Author.Tests.{ne_eqb}
use lib.Dec.{eqb}
use Rattle.std.specs.Prelude.{Some}
use Rattle.common.specs.Choice.{both}
use Rattle.sound.specs.declared.Sound.{Sound}
use Rattle.chip.specs.declared.acknowledge.Source.{Source}
use Rattle.chip.specs.declared.acknowledge.Source.TheVariants.{Raster, Channel}
use Rattle.chip.specs.Interrupts.{of_raster, nobody, code, source_of}

-- whoever is served is known by another number than nobody
pub someone : (source : Source) → eqb (code (Some source)) nobody ≡ false
someone Raster = refl
someone (Channel n) = ne_eqb _ _ (omega arith)

-- raster comes first, so that it waits no longer, whatever is served
pub raster-cleared : (raster : Bool) (s : Sound) → both raster (not (eqb (source_of raster s) of_raster)) ≡ false
unfolding source_of
raster-cleared true s = refl
raster-cleared false s = refl

pub ruleset serving = (someone, raster-cleared)
