-- Demand 3 over one channel: its reports over a run are as the forecast says. And runs of every length exist.
use mathlib.Core.Path.{◌≡◌, refl, ◌∙◌, ap}
use mathlib.Core.Bool.{true, false}
use mathlib.Core.List.{List, [], ◌∷◌}
use Prim.Native.Nat.{ℕ, zero, suc, ◌<◌}
use native.Mathlib.Omega.{arith}
use lib.ListN.{length, get_or}
use Rattle.sound.specs.declared.Access.{Access}
use Rattle.sound.specs.declared.Channel.{Channel}
use Rattle.sound.specs.declared.Did.{Did}
use Rattle.sound.specs.declared.Did.TheVariants.{SatOut}
use Rattle.sound.specs.declared.Turn.{Turn}
use Rattle.sound.specs.Line.{channel_after, did_on}
use Rattle.chip.specs.Channels.{Aside}
use Rattle.words.specs.Words.{has_stop}
use Rattle.forecast.specs.Rule.{cycles_of, words_of, total, even, lines_forecast, cycles_meeting}
use Rattle.forecast.specs.Left.{waits, left, lines_left, cycles_left}
use Rattle.forecast.proofs.Playing.{Playing}
use Rattle.forecast.specs.Demand.{did_sit, Ready}
use Rattle.forecast.proofs.ChannelRun.{ChannelRun, ended, aside, line}
use Rattle.forecast.proofs.Ahead.{ahead-total}
use Rattle.forecast.proofs.Words.{some_word}
use Rattle.forecast.proofs.Waits.{Counts, acts, sits, counts, turn-acts}
use Rattle.forecast.proofs.LinePlays.{Line, stops-there, plays-on, line-plays}
use Rattle.forecast.proofs.Told.{Told, told_none, told-stop, told_more, told_same}

-- runs of every length exist: lend the same RAM each time
pub runs : (ram : List ℕ) (start m : ℕ) (c : Channel) → (ds : List Did) × ChannelRun ram start c ds × (length ds ≡ m)
runs ram start zero c = ([], ended, refl)
runs ram start (suc m) c =
    let rest = runs ram start m (channel_after ram c) in
    (did_on ram c ∷ rest.0, line ram (record { words = λ i l. refl }) refl refl rest.1, ap suc rest.2)

module _ (ram : List ℕ) (start : ℕ) where
  -- a channel left alone plays on, with as much left
  pub playing-aside : {c d : Channel} → Aside c d → Playing ram start c → Playing ram start d
  playing-aside {c} {d} a p =
      record {
        enabled = a.alone.enabled p.enabled;
        passed = p.passed;
        place = a.alone.address ∙ p.place;
        within = p.within;
        since = λ h. rw a.keeps.mark (p.since (rw a.keeps.counter at h));
      }

  left-aside : {c d : Channel} → Aside c d → (cost : ℕ → ℕ) → left cost ram d ≡ left cost ram c
  unfolding left
  left-aside a cost = rw (a.alone.address, a.keeps.counter, a.keeps.mark)

  pub lines-aside : {c d : Channel} → Aside c d → lines_left ram d ≡ lines_left ram c
  unfolding lines_left
  lines-aside a = rw (left-aside a, a.alone.prescale, a.keeps.pause, a.keeps.count)

  pub cycles-aside : {c d : Channel} → Aside c d → (x : Access) → cycles_left x ram d ≡ cycles_left x ram c
  unfolding cycles_left
  cycles-aside a x = left-aside a _

  -- with no pause the first report is an instruction
  first-acts : {c : Channel} {ds : List Did} → c.enabled ≡ true → c.pause ≡ 0 → ChannelRun ram start c ds → 0 < length ds → did_sit (get_or ds 0 SatOut) ≡ false
  unfolding waits
  first-acts on z ended h = absurd (omega arith)
  first-acts on z (aside a t) h = first-acts (a.alone.enabled on) (a.keeps.pause ∙ z) t h
  first-acts on z (line {c = c} lent l e f t) h = rw f (by_count (counts c on))
    where
      by_count : Counts c → did_sit (did_on lent c) ≡ false
      by_count (acts q g n) = ap (λ (t : Turn). did_sit t.did) (turn-acts c on lent q g)
      by_count (sits p q g n) = absurd (omega (arith, rw z at n))

  module _ (listed : has_stop (words_of ram start) ≡ true) where
    -- one report, and the rest as foretold for the channel after it
    line-told :
        {c d : Channel} {r : Did} {ds : List Did} →
        Line ram start c d r → (Playing ram start d → (0 < lines_left ram d) × Told (lines_left ram d) (λ a. cycles_left a ram d) ds) →
        Told (lines_left ram c) (λ a. cycles_left a ram c) (r ∷ ds)
    line-told (stops-there h) rest = rw h.lines (told-stop _ _ _ h.cycles h.stop)
    line-told (plays-on h) rest =
        rw h.lines (told_more _ _ _ _ _ h.cycles (rest h.playing).0 h.stop (rest h.playing).1)

    -- a line is always left
    pub line-left : (c : Channel) → Playing ram start c → 0 < lines_left ram c
    line-left c p = by-line (line-plays ram start listed c p ram (record { words = λ i l. refl }))
      where
        by-line : {d : Channel} {r : Did} → Line ram start c d r → 0 < lines_left ram c
        by-line (stops-there h) = omega (arith, h.lines)
        by-line (plays-on h) = omega (arith, h.lines)

    -- the reports of a channel that plays, from wherever it is
    pub trace_told : {c : Channel} {ds : List Did} → Playing ram start c → ChannelRun ram start c ds → Told (lines_left ram c) (λ a. cycles_left a ram c) ds
    trace_told p ended = told_none _ _ (line-left _ p)
    trace_told p (aside a t) = told_same (lines-aside a) (cycles-aside a) (trace_told (playing-aside a p) t)
    trace_told p (line {c = c} lent l e f t) =
        rw f (line-told (rw (← e) at (line-plays ram start listed c p lent l)) (λ q. (line-left _ q, trace_told q t)))

module _ (ram : List ℕ) (start n : ℕ) (c : Channel) (ready : Ready start n c) where
  -- at the start all is left, and the list plays
  ready-left : (cost : ℕ → ℕ) → left cost ram c ≡ total cost 0 (words_of ram (even start))
  unfolding left
  ready-left cost = rw (ready.counter, ready.address, ahead-total cost)

  pub ready-lines : lines_left ram c ≡ lines_forecast ram start n
  unfolding lines_left lines_forecast waits
  ready-lines = rw (ready-left, ready.divides, ready.pause) (omega arith)

  pub ready-cycles : (a : Access) → cycles_left a ram c ≡ cycles_meeting a ram start
  unfolding cycles_left cycles_meeting
  ready-cycles a = ready-left (cycles_of a)

  pub ready-playing : has_stop (words_of ram (even start)) ≡ true → Playing ram (even start) c
  ready-playing listed =
      record {
        enabled = ready.enabled;
        passed = 0;
        place = omega (arith, ready.address);
        within = some_word _ listed;
        since = λ h. absurd (omega (arith, h, ready.counter));
      }

-- demand 3 over one channel, but for the cycles of lines that meet different accesses: what is told, and the first report
pub record Plain (lines : ℕ) (cycles : Access → ℕ) (ds : List Did) : Type 0 where
  pub told : Told lines cycles ds
  pub first : 0 < length ds → did_sit (get_or ds 0 SatOut) ≡ false

pub plays :
    (ram : List ℕ) (start n : ℕ) (c : Channel) (ds : List Did) → has_stop (words_of ram (even start)) ≡ true → Ready start n c →
    ChannelRun ram (even start) c ds → Plain (lines_forecast ram start n) (λ a. cycles_meeting a ram start) ds
plays ram start n c ds listed ready t =
    record {
      told =
          told_same (ready-lines ram start n c ready) (ready-cycles ram start n c ready)
          (trace_told ram (even start) listed (ready-playing ram start n c ready listed) t);
      first = first-acts ram (even start) ready.enabled ready.pause t;
    }
