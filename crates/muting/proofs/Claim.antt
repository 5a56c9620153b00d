-- The claim over runs: a mute mark moves nothing but the PSG.
use mathlib.Core.Path.{◌≡◌, refl, ap, sym, ◌∙◌, subst}
use mathlib.Core.List.{List, [], ◌∷◌}
use Prim.Native.Nat.{ℕ}
use borrow.Author.Tests.{eq-eqb}
use Rattle.sound.specs.declared.Accesses.{Accesses}
use Rattle.sound.specs.Line.{psg_after, sound_after, sound_report}
use Rattle.sound.proofs.Muting.{did-muted, after-muted}
use Rattle.chip.specs.declared.Chip.{Chip}
use Rattle.chip.specs.State.{with_sound}
use Rattle.chip.specs.Step.{stepped, counters_stepped}
use Rattle.runs.specs.World.{World, Buffers}
use Rattle.runs.specs.Call.{Call, Reply, reply_to, world_after}
use Rattle.runs.specs.Sort.{on_line}
use Rattle.runs.specs.Run.{Made, Makes, Run, ended, on, Each}
use Rattle.runs.specs.Pair.{Beside, SameReplies}
use Rattle.runs.specs.Pair as pair
use Rattle.runs.proofs.Calls.{served-is}
use Rattle.runs.proofs.Views.{Lines, LineView, one, other, line_view}
use Rattle.runs.proofs.Pairs.{Local, side_by_side}
use Rattle.forecast.specs.Demand.{report_in}
use Rattle.forecast.proofs.Runs.{told_line}
use Rattle.muting.specs.Muting.{SameBut, NoCall, AnyCall, Heard, Muting}
use Rattle.muting.proofs.Alike.{Alike}
use Rattle.muting.proofs.Calls.{same-reply, call-both}

-- the second of two such worlds is the first with another sound
module _ {k : ℕ} (w v : World) (s : SameBut k w v) where
  alike : Alike k w.chip.sound v.chip.sound
  alike = record { count = s.count; channel = s.channel; marks = s.marks }

  second_is : v ≡ record { chip = with_sound w.chip v.chip.sound; lent = w.lent }
  second_is =
      ap (λ (c : Chip). record { chip = c; lent = v.lent }) s.chip-rest
      ∙ ap (λ (l : Buffers). record { chip = with_sound w.chip v.chip.sound; lent = l }) s.lent

  reply-same : (c : Call) → reply_to w c ≡ reply_to v c
  reply-same c = same-reply w.chip v.chip.sound alike w.lent c ∙ ap (λ (u : World). reply_to u c) (sym second_is)

  world_same : (c : Call) → SameBut k (world_after w c) (world_after v c)
  world_same c =
      subst (λ (u : World). SameBut k (world_after w c) (world_after u c)) (sym second_is)
      (call-both w.chip v.chip.sound alike w.lent c)

local : (k : ℕ) → Local (λ w c. Unit {0}) (SameBut k) NoCall NoCall AnyCall
local k =
    record {
      theirs_first = λ w v c x a s. absurd x;
      theirs_second = λ w v c x a s. absurd x;
      on_both = λ w v c a b g s. world_same w v s c;
      replies = λ w v c x a b s. reply-same w v s c;
    }

-- ---- the PSG after a line
line-psg :
    (ram : List ℕ) (a : Accesses) (c : Chip) →
    (stepped ram c).sound.psg ≡ psg_after c.sound.psg c.sound.channels (sound_report ram a c.sound).entries
unfolding stepped counters_stepped sound_after sound_report
line-psg ram a c = refl

heard-one : {w v : World} (c : Call) {r : Reply} → Makes w c r v → Heard (record { before = w; asks = c; reply = r; after = v })
heard-one {w} {v} c {r} m z = go (line_view w c)
  where
    psg-by :
        (a : Accesses) → Lines w c a →
        v.chip.sound.psg ≡ psg_after w.chip.sound.psg w.chip.sound.channels (report_in r.told).entries
    psg-by a l = rw (served-is m z, l.next, told_line m l, eq-eqb _ _ z) (line-psg w.lent.ram a w.chip)

    go :
        LineView w c →
        on_line
        (λ a. v.chip.sound.psg ≡ psg_after w.chip.sound.psg w.chip.sound.channels (report_in r.told).entries) (Unit {0}) c
    go (one a l) = rw l.sorts (psg-by a l)
    go (other e) = rw e tt

heard_all : {w x : World} {es : List Made} → Run w es x → Each Heard es
heard_all ended = tt
heard_all (on {c = c} m rest) = (heard-one c m, heard_all rest)

-- nothing is asked of the calls, and no reply is given
all : (es : List Made) → Each (λ e. Unit {0}) es
all [] = tt
all (e ∷ es) = (tt, all es)

none : {es fs : List Made} (b : Beside NoCall es fs) → SameReplies NoCall b
none pair.ended = tt
none (pair.first x rest) = absurd x
none (pair.second x rest) = absurd x
none (pair.both p rest) = (λ x. absurd x, none rest)

pub muting : Muting
muting =
    record {
      apart = λ ram c m. record { did = did-muted ram c m; after = after-muted ram c m };
      moves-nothing =
          λ k {w} {v} {x} {y} {es} {fs} s m n b.
          let a = side_by_side (local k) b m n (all es) (all fs) (none b) s in
          record { replies = a.same; throughout = a.views };
      heard = heard_all;
    }
