-- A run of calls, each known by its contract alone, as one channel sees it: lines on the RAM that each was lent.
use mathlib.Core.Path.{◌≡◌, refl}
use mathlib.Core.Bool.{Bool, true, false}
use mathlib.Core.List.{List, [], ◌∷◌}
use Prim.Native.Nat.{ℕ, ◌<◌}
use lib.Dec.{eqb}
use borrow.Author.Tests.{eqb-true, eqb-false}
use Rattle.common.specs.Answers.{done}
use Rattle.common.specs.Choice.{if}
use Rattle.sound.specs.declared.Accesses.{Accesses}
use Rattle.sound.specs.declared.Channel.{Channel}
use Rattle.runs.specs.World.{World}
use Rattle.runs.specs.Call.{Call, Reply}
use Rattle.runs.specs.Run.{Made, Makes, Run, ended, on, Each}
use Rattle.runs.proofs.Calls.{refused-is}
use Rattle.runs.proofs.Views.{Lines, LineView, one, other, line_view}
use Rattle.forecast.specs.Demand.{channel}
use Rattle.forecast.proofs.Runs.{step-did, step-moves}
use Rattle.forecast.specs.Played.{Line, line_of, line_by, played_in}
use Rattle.mended_play.specs.Play.{played_on}
use Rattle.mended_play.specs.Sameness.{AllHave, Lends}

-- lines of a channel on RAMs that have the words
pub record PlayOf (start : ℕ) (words : List ℕ) (c : Channel) (lines : List Line) : Type 0 where
  pub rams : List (List ℕ)
  pub have : AllHave start words rams
  pub plays : lines ≡ played_on rams c

module _ (n : ℕ) (h : n < 3) (start : ℕ) (words : List ℕ) where
  -- a line step
  line-seen :
      {w v : World} {c : Call} {a : Accesses} {r : Reply} (ls : List Line) (k : Makes w c r v) → Lines w c a →
      Lends n start words (record { before = w; asks = c; reply = r; after = v }) →
      PlayOf start words (channel v.chip n) ls →
      PlayOf start words (channel w.chip n) (line_by n (record { before = w; asks = c; reply = r; after = v }) ls)
  line-seen {w} {v} {c} {a} {r} ls k l ok rest = rw l.sorts (go (eqb r.answer done) refl)
    where
      e : Made
      e = record { before = w; asks = c; reply = r; after = v }

      go : (t : Bool) → eqb r.answer done ≡ t → PlayOf start words (channel w.chip n) (if t (line_of n e ∷ ls) ls)
      go true t =
          let z = eqb-true _ _ t in
          record {
            rams = w.lent.ram ∷ rest.rams;
            have = (rw l.sorts at (ok z), rest.have);
            plays = rw (step-did n h k l z, rest.plays, step-moves n h k l z);
          }
      go false t = rw (← (refused-is k (eqb-false _ _ t))) rest

  -- any call
  one_seen :
      {w v : World} {r : Reply} (ls : List Line) (c : Call) → LineView w c → Makes w c r v →
      Lends n start words (record { before = w; asks = c; reply = r; after = v }) →
      PlayOf start words (channel v.chip n) ls →
      PlayOf start words (channel w.chip n) (line_by n (record { before = w; asks = c; reply = r; after = v }) ls)
  one_seen ls c (one a l) k ok rest = line-seen ls k l ok rest
  one_seen {w} {v} {r} ls c (other e) k ok rest = rw (e, ← stays) rest
    where
      go : (t : Bool) → eqb r.answer done ≡ t → channel v.chip n ≡ channel w.chip n
      go true t = rw e at (ok (eqb-true _ _ t))
      go false t = rw (refused-is k (eqb-false _ _ t))

      stays : channel v.chip n ≡ channel w.chip n
      stays = go (eqb r.answer done) refl

  -- the run as channel n sees it
  pub seen :
      {w v : World} {es : List Made} → Run w es v → Each (Lends n start words) es → PlayOf start words (channel w.chip n) (played_in n es)
  seen ended ok = record { rams = []; have = tt; plays = refl }
  seen (on {w} {c = c} {es = es} k rest) ok = one_seen (played_in n es) c (line_view w c) k ok.0 (seen rest ok.1)
