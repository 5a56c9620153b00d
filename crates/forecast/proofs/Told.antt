-- Reports that are as foretold, one report at a time.
use mathlib.Core.Path.{◌≡◌, refl, sym, ◌∙◌}
use mathlib.Core.Bool.{true, false}
use mathlib.Core.List.{List, [], ◌∷◌}
use Prim.Native.Nat.{ℕ, zero, suc, ◌+◌, ◌-◌, ◌<◌, ◌≤◌}
use native.Mathlib.Omega.{arith}
use lib.Dec.{leb, leb-suc-suc}
use lib.ListN.{length, take, get_or}
use borrow.Author.Tests.{lt-leb, le-leb}
use Rattle.sound.specs.declared.Access.{Access}
use Rattle.sound.specs.declared.Did.{Did}
use Rattle.sound.specs.declared.Did.TheVariants.{SatOut}
use Rattle.sound.specs.Line.{own_cycles}
use Rattle.forecast.specs.Demand.{did_stop, any_stop}

-- a channel's own cycles over the reports, if each LOAD meets this access
unfoldable pub own_meeting : Access → List Did → ℕ
own_meeting a [] = 0
own_meeting a (d ∷ ds) = own_cycles a d + own_meeting a ds

-- what is foretold of reports, but for the first, which may be a line of a pause; the cycles are those that meet each access
pub record Told (lines : ℕ) (cycles : Access → ℕ) (ds : List Did) : Type 0 where
  pub stopped : any_stop ds ≡ leb lines (length ds)
  pub before : (i : ℕ) → i + 1 < lines → did_stop (get_or ds i SatOut) ≡ false
  pub last : lines ≤ length ds → did_stop (get_or ds (lines - 1) SatOut) ≡ true
  pub cost : (a : Access) → lines ≤ length ds → own_meeting a (take lines ds) ≡ cycles a

-- no report yet, with lines left
pub told_none : (lines : ℕ) (cycles : Access → ℕ) → 0 < lines → Told lines cycles []
unfolding any_stop
told_none lines cycles h =
    record {
      stopped = sym (lt-leb lines 0 h);
      before = λ i l. refl;
      last = λ l. absurd (omega arith);
      cost = λ a l. absurd (omega arith);
    }

module _ (r : Did) (ds : List Did) where
  -- the STOP, and whatever follows it
  pub told-stop : (cycles : Access → ℕ) → ((a : Access) → cycles a ≡ own_cycles a r) → did_stop r ≡ true → Told 1 cycles (r ∷ ds)
  unfolding any_stop own_meeting
  told-stop cycles e s =
      record {
        stopped = rw s (sym (le-leb 1 (suc (length ds)) (omega arith)));
        before = λ i l. absurd (omega arith);
        last = λ l. s;
        cost = λ a l. omega (arith, e a);
      }

  -- one report that is no STOP
  pub told_more :
      (lines : ℕ) (cycles cycles' : Access → ℕ) → ((a : Access) → cycles' a ≡ own_cycles a r + cycles a) → 0 < lines → did_stop r ≡ false →
      Told lines cycles ds → Told (suc lines) cycles' (r ∷ ds)
  unfolding any_stop own_meeting
  told_more zero cycles cycles' e h s t = absurd (omega arith)
  told_more (suc n) cycles cycles' e h s t =
      record {
        stopped = rw s (t.stopped ∙ sym (leb-suc-suc (suc n) (length ds)));
        before = before;
        last = λ l. let g : suc (suc n) - 1 ≡ suc n = omega arith in let f : suc n - 1 ≡ n = omega arith in rw g (rw f at (t.last (omega arith)));
        cost = λ a l. omega (arith, e a, t.cost a (omega arith));
      }
    where
      before : (i : ℕ) → i + 1 < suc (suc n) → did_stop (get_or (r ∷ ds) i SatOut) ≡ false
      before zero l = s
      before (suc i) l = t.before i (omega arith)

-- the same numbers, otherwise written
pub told_same :
    {lines lines' : ℕ} {cycles cycles' : Access → ℕ} {ds : List Did} →
    lines ≡ lines' → ((a : Access) → cycles a ≡ cycles' a) → Told lines cycles ds → Told lines' cycles' ds
told_same {lines} e f t =
    rw (← e)
    (record { stopped = t.stopped; before = t.before; last = t.last; cost = λ a l. t.cost a l ∙ f a })
