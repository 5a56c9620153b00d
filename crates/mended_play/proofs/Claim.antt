-- The claim, from its parts.
use mathlib.Core.List.{List}
use Prim.Native.Nat.{ℕ}
use Rattle.mend.specs.Rule.{mended_words}
use Rattle.forecast.specs.Demand.{channel}
use Rattle.mended_play.specs.Sameness.{Sameness}
use Rattle.mended_play.proofs.Plays.{by_lines}
use Rattle.mended_play.proofs.Runs.{seen}
use Rattle.mended_play.proofs.Forecasts.{same-forecast}

pub sameness : (words : List ℕ) → Sameness words (mended_words words)
sameness words =
    record {
      by_lines = λ start c fresh rams others old new. by_lines words start c fresh rams others old new;
      over_runs =
          λ n start h {w} fresh same run old other-run new. (
          let p = seen n h start words run old in
          let q = seen n h start (mended_words words) other-run new in
          rw (p.plays, q.plays, same) (by_lines words start (channel w.chip n) fresh p.rams q.rams p.have q.have)
          );
      forecast = λ h start evens fits ram other long other-long old new. same-forecast words h start evens fits ram other long other-long old new;
    }
