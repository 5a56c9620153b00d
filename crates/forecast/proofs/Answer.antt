-- The answer's three cases, and the promise in each.
use mathlib.Core.Path.{◌≡◌, sym}
use mathlib.Core.Bool.{true, false}
use mathlib.Core.List.{List}
use Rattle.std.specs.Prelude.{Ok}
use Prim.Native.Nat.{ℕ, suc}
use native.Mathlib.Omega.{arith}
use lib.Dec.{eqb-suc-zero}
use lib.ListN.{length}
use borrow.Author.Tests.{eq-eqb, ne_eqb}
use Rattle.forecast.specs.declared.Length.{Length}
use Rattle.words.specs.Words.{has_stop}
use Rattle.forecast.specs.Rule.{words_of, even, lines_forecast, cycles_forecast, most_forecast, answer_of}
use Rattle.forecast.specs.Contract.{told, Forecasts}
use Rattle.forecast.proofs.Demands.{demanded}

module _ (ram : List ℕ) (start : ℕ) where
  -- RAM of another length; no STOP; a list
  pub answer-length : (length ram ≡ 65536 → ⊥) → answer_of ram start ≡ 1
  unfolding answer_of
  answer-length h = simp (ne_eqb (length ram) 65536 h)

  pub answer-none : length ram ≡ 65536 → has_stop (words_of ram (even start)) ≡ false → answer_of ram start ≡ 6
  unfolding answer_of
  answer-none h s = simp (eq-eqb (length ram) 65536 h, s)

  pub answer-served : length ram ≡ 65536 → has_stop (words_of ram (even start)) ≡ true → answer_of ram start ≡ 0
  unfolding answer_of
  answer-served h s = simp (eq-eqb (length ram) 65536 h, s)

  module _ (prescale : ℕ) where
    -- a refusal has its number, and 0 beside it
    pub forecast-refused :
        (n : ℕ) → answer_of ram start ≡ suc n → Forecasts ram start prescale (record { answer = suc n; lines = 0; cycles = 0; most = 0 })
    forecast-refused n e =
        record {
          answer = sym e;
          lines = simp (e, eqb-suc-zero n);
          cycles = simp (e, eqb-suc-zero n);
          most = simp (e, eqb-suc-zero n);
          demand = λ z. absurd (omega arith);
        }

    -- a list has the lines, the least and the most cycles of the rule
    pub forecast-served :
        (r : Length) → length ram ≡ 65536 → has_stop (words_of ram (even start)) ≡ true → r.lines ≡ lines_forecast ram start prescale →
        r.cycles ≡ cycles_forecast ram start → r.most ≡ most_forecast ram start → Forecasts ram start prescale (told (Ok r))
    forecast-served r h s l t m =
        let e = answer-served h s in
        record {
          answer = sym e;
          lines = simp (e, l);
          cycles = simp (e, t);
          most = simp (e, m);
          demand = λ z. rw (l, t, m) (demanded ram start prescale s);
        }
