-- From a run of calls, each known by its contract alone, to what one channel sees of it.
use mathlib.Core.Path.{◌≡◌, refl}
use mathlib.Core.Bool.{Bool, true, false}
use mathlib.Core.List.{List, [], ◌∷◌}
use Prim.Native.Nat.{ℕ, ◌<◌, ◌≤◌}
use lib.Dec.{eqb}
use borrow.Author.Tests.{eq-eqb, eqb-true, eqb-false}
use Rattle.common.specs.Answers.{done, served}
use Rattle.common.specs.Choice.{if}
use Rattle.sound.specs.declared.Accesses.{Accesses}
use Rattle.sound.specs.Line.{channel_after, did_on, did_of, sound_report}
use Rattle.sound.proofs.Laws.{line-channel, line-did}
use Rattle.chip.specs.Channels.{LeftAlone, Aside}
use Rattle.chip.specs.Step.{stepped, counters_stepped, idle_report}
use Rattle.chip.proofs.ChannelLaws.{aside_self}
use Rattle.line.proofs.Possible.{steps-by}
use Rattle.runs.specs.World.{World}
use Rattle.runs.specs.Call.{Call, Reply}
use Rattle.runs.specs.Sort.{sort_of, line_in}
use Rattle.runs.specs.Run.{Made, Makes, Run, ended, on, Each}
use Rattle.runs.proofs.Calls.{fixed, served-is, refused-is}
use Rattle.runs.proofs.Views.{Lines, LineView, one, other, line_view}
use Rattle.forecast.specs.Demand.{channel, LineStep, report_in, step_by, steps_of, Allowed, did_over, Bounded}
use Rattle.forecast.proofs.Spares.{effect}
use Rattle.forecast.proofs.ChannelRun.{ChannelRun, ended as no_more, aside as call_Passes, line as line-passes}

-- what a call that steps a line tells
pub told_line :
    {w v : World} {c : Call} {a : Accesses} {r : Reply} → Makes w c r v → Lines w c a →
    report_in r.told ≡ served r.answer (sound_report w.lent.ram a w.chip.sound) idle_report
told_line k l = rw ((fixed k).reply-is, l.tells)

-- what channel n does on a served line, and the channel after it
module _ (n : ℕ) (h : n < 3) {w v : World} {c : Call} {a : Accesses} {r : Reply} (k : Makes w c r v) (l : Lines w c a) (z : r.answer ≡ done) where
  pub step-did : did_of (report_in r.told).entries n ≡ did_on w.lent.ram (channel w.chip n)
  step-did = rw (told_line k l, eq-eqb _ _ z) (line-did w.lent.ram a w.chip.sound n h)

  pub step-moves : channel v.chip n ≡ channel_after w.lent.ram (channel w.chip n)
  unfolding stepped counters_stepped
  step-moves = rw (served-is k z, l.next) (line-channel w.lent.ram w.chip.sound n h)

-- a call that is no line step sets the channel aside, where it leaves it alone if it is served
pub call-aside :
    {w v : World} {c : Call} {r : Reply} (n : ℕ) → n < 3 → Makes w c r v → line_in (sort_of c) ≡ [] →
    (r.answer ≡ done → LeftAlone (channel w.chip n) (channel v.chip n)) → Aside (channel w.chip n) (channel v.chip n)
call-aside {w} {v} {c} {r} n h k e alone = go (eqb r.answer done) refl
  where
    go : (t : Bool) → eqb r.answer done ≡ t → Aside (channel w.chip n) (channel v.chip n)
    go true t = record { alone = alone (eqb-true _ _ t); keeps = rw (served-is k (eqb-true _ _ t)) ((effect n h w c).keeps e) }
    go false t = rw (refused-is k (eqb-false _ _ t)) (aside_self (channel w.chip n))

module _ (n : ℕ) (h : n < 3) {ram : List ℕ} {start : ℕ} where
  -- a line step
  line-seen :
      {w v : World} {c : Call} {a : Accesses} {r : Reply} (ss : List LineStep) (k : Makes w c r v) → Lines w c a →
      Allowed n ram start (record { before = w; asks = c; reply = r; after = v }) →
      ChannelRun ram start (channel v.chip n) (did_over n ss) →
      ChannelRun ram start (channel w.chip n) (did_over n (step_by (record { before = w; asks = c; reply = r; after = v }) ss))
  line-seen {w} {v} {c} {a} {r} ss k l ok rest = rw l.sorts (go (eqb r.answer done) refl)
    where
      s : LineStep
      s = record { accesses = a; report = report_in r.told }

      go : (t : Bool) → eqb r.answer done ≡ t → ChannelRun ram start (channel w.chip n) (did_over n (if t (s ∷ ss) ss))
      go true t =
          let z = eqb-true _ _ t in
          line-passes w.lent.ram (rw l.sorts at (ok z)) (step-moves n h k l z) (step-did n h k l z) rest
      go false t = rw (← (refused-is k (eqb-false _ _ t))) rest

  -- any call
  one_seen :
      {w v : World} {r : Reply} (ss : List LineStep) (c : Call) → LineView w c → Makes w c r v →
      Allowed n ram start (record { before = w; asks = c; reply = r; after = v }) →
      ChannelRun ram start (channel v.chip n) (did_over n ss) →
      ChannelRun ram start (channel w.chip n) (did_over n (step_by (record { before = w; asks = c; reply = r; after = v }) ss))
  one_seen ss c (one a l) k ok rest = line-seen ss k l ok rest
  one_seen ss c (other e) k ok rest = rw e (call_Passes (call-aside n h k e (λ z. rw e at (ok z))) rest)

  -- the run as channel n sees it
  pub seen :
      {w v : World} {es : List Made} → Run w es v → Each (Allowed n ram start) es →
      ChannelRun ram start (channel w.chip n) (did_over n (steps_of es))
  seen ended ok = no_more
  seen (on {w} {c = c} {es = es} k rest) ok = one_seen (steps_of es) c (line_view w c) k ok.0 (seen rest ok.1)

-- no line of it takes over 34 cycles
one-bounded :
    {w v : World} {r : Reply} (ss : List LineStep) (c : Call) → LineView w c → Makes w c r v → Bounded ss →
    Bounded (step_by (record { before = w; asks = c; reply = r; after = v }) ss)
unfolding Bounded
one-bounded {w} {r = r} ss c (one a l) k rest = rw l.sorts (go (eqb r.answer done))
  where
    bound : (report_in r.told).cycles ≤ 34
    bound = rw (told_line k l) (steps-by r.answer w.chip w.lent.ram a).bound

    go : (t : Bool) → Bounded (if t (record { accesses = a; report = report_in r.told } ∷ ss) ss)
    go true = (bound, rest)
    go false = rest
one-bounded ss c (other e) k rest = rw e rest

pub bounded : {w v : World} {es : List Made} → Run w es v → Bounded (steps_of es)
unfolding Bounded
bounded ended = tt
bounded (on {w} {c = c} {es = es} k rest) = one-bounded (steps_of es) c (line_view w c) k (bounded rest)
