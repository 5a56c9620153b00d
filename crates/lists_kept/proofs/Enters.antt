-- A channel that has no list in use comes to that list's room only by the room's first word, from the word below it.
use mathlib.Core.Path.{◌≡◌, refl, sym, ◌∙◌, subst}
use mathlib.Core.Bool.{Bool, true, false}
use mathlib.Core.List.{List, [], ◌∷◌}
use Prim.Native.Nat.{ℕ, zero, suc, ◌+◌, ◌%◌, ◌<◌, ◌≤◌}
use native.Mathlib.Omega.{arith}
use borrow.Author.Tests.{eqb-true, eqb-false, ltb-true}
use lib.Dec.{eqb, ltb}
use Rattle.common.specs.Answers.{done}
use Rattle.common.specs.Choice.{if, both, either}
use Rattle.common.proofs.Order.{either_side}
use Rattle.common.proofs.Tests.{both_true, clash}
use Rattle.words.specs.Words.{kind_of, is_pause, is_control, low12, int_bit, repeats, loops, stops}
use Rattle.lists.specs.Room.{start_of, end_of, place_at}
use Rattle.lists.proofs.Room.{start-even, end_even}
use Rattle.lists.proofs.Uses.{Uses, by_address, by-mark, by_word, case_uses}
use Rattle.sound.specs.declared.Accesses.{Accesses}
use Rattle.sound.specs.declared.Channel.{Channel}
use Rattle.sound.specs.declared.Did.{Did}
use Rattle.sound.specs.declared.Did.TheVariants.{Executed}
use Rattle.sound.specs.declared.Sound.{Sound}
use Rattle.sound.specs.declared.Turn.{Turn}
use Rattle.sound.specs.Channels.{word_at, with_pause, pause_counted, active, fetched, turn_of}
use Rattle.sound.specs.Line.{channel_of, channel_after, did_on}
use Rattle.contents.specs.Widths.{ChannelWidths}
use Rattle.placing.specs.InUse.{used_by, in_use_of}
use Rattle.forecast.proofs.Moves.{moved, moves}
use Rattle.forecast.proofs.Waits.{Counts, acts, sits, counts, turn-acts, turn-sits}
use Rattle.forecast.proofs.WordPlays.{loop-only}
use Rattle.forecast.specs.Demand.{did_sit}
use Rattle.forecast.specs.Demand.{channel}
use Rattle.forecast.specs.Played.{Line, line_of, played_in}
use Rattle.forecast.proofs.Runs.{step-did, step-moves}
use Rattle.runs.specs.World.{World}
use Rattle.runs.specs.Call.{Call, remove, Reply, served_world}
use Rattle.runs.specs.Run.{Made, Makes, Run, ended, on, Each}
use Rattle.runs.specs.Reached.{Reached}
use Rattle.runs.proofs.Calls.{fixed, served-answer, served-is, refused-is}
use Rattle.runs.proofs.ChipWidths.{turn-widths}
use Rattle.runs.proofs.Views.{Lines, View, feeds, writes, undoes, steps, starts, lends, plain, view}
use Rattle.runs.proofs.Within.{within}
use Rattle.chip.specs.Editors.{lists_of}
use Rattle.lists_kept.specs.Kept.{start_at, end_at}
use Rattle.lists_kept.specs.InUse.{LinesAlone, In, EntersAtFirst}
use Rattle.lists_kept.proofs.Rooms.{removal_served}
use Rattle.lists_kept.proofs.Plays.{neither}

-- clear of the room from s up to e: outside it; with a loop open the mark outside it too, and not below it with the address behind it
pub record Clear (s e : ℕ) (d : Channel) : Type 0 where
  pub address : In s e d.address → ⊥
  pub mark : 0 < d.counter → In s e d.mark → ⊥
  pub between : 0 < d.counter → d.mark < s → d.address < s

-- a channel that has not the list of a place in use is clear of it
pub unused-clear :
    (p : ℕ) (d : Channel) → start_of p < end_of p → d.enabled ≡ true → used_by d p ≡ false → Clear (start_of p) (end_of p) d
unused-clear p d some enabled no-use =
    record {
      address = λ i. not_used (by_address i.from i.upto);
      mark = λ b i. not_used (by-mark b i.from i.upto);
      between =
          λ b low.
          either_side d.address (start_of p) (λ g. g)
          (λ g. absurd (not_used (by_word (start_of p) b (omega arith) (omega arith) g (omega arith) some)));
    }
  where
    not_used : Uses (start_of p) (end_of p) d.address d.mark d.counter → ⊥
    not_used u =
        clash (case_uses (start_of p) (end_of p) d.address d.mark d.counter (start-even p) (end_even p) u) (rw enabled at no-use)

-- what a line does: clear still, or the room's first word reached from the word below it
pub data Step (s e : ℕ) (c d : Channel) (r : Did) : Type 0 where
  clear-still : Clear s e d → Step s e c d r
  enters : did_sit r ≡ false → (c.address + 2) % 65536 ≡ s → d.address ≡ s → Step s e c d r

module _ {s e : ℕ} (small : e ≤ 65536) (even : s % 2 ≡ 0) (c : Channel) (widths : ChannelWidths c) (clear : Clear s e c) where
  -- the word after it
  abbrev next : ℕ
  next = (c.address + 2) % 65536

  by_next : {P : Type 0} → (next ≡ s → P) → ((In s e next → ⊥) → (c.address < s → next < s) → P) → P
  by_next f g =
      either_side next s (λ low. g (λ i. omega (arith, i.from)) (λ h. low))
      (λ high.
      either_side s next
      (λ above.
      g
      (λ i.
      clear.address
      (record {
        from = omega (arith, widths.even, widths.address, even);
        upto = omega (arith, i.upto, widths.address);
      }))
      (λ h. absurd (omega (arith, widths.even, widths.address, even))))
      (λ below. f (omega arith)))

  -- a word by whether it is a REPEAT and whether it goes back
  word-steps :
      (pauses repeating backs interrupts stopping : Bool) (n pause count : ℕ) (r : Did) → did_sit r ≡ false → (backs ≡ true → repeating ≡ false) →
      (backs ≡ true → 0 < c.counter) → Step s e c (moved pauses repeating backs interrupts stopping n (fetched (with_pause c pause count))) r
  unfolding fetched
  word-steps pauses true true interrupts stopping n pause count r sat only some = absurd (clash refl (only refl))
  word-steps pauses true false interrupts stopping n pause count r sat only some =
      by_next (λ z. enters sat z z) (λ out low. clear-still (record { address = out; mark = λ b. out; between = λ b g. g }))
  word-steps pauses false true interrupts stopping n pause count r sat only some =
      clear-still
      (record { address = clear.mark (some refl); mark = λ b. clear.mark (some refl); between = λ b g. g })
  word-steps pauses false false interrupts stopping n pause count r sat only some =
      by_next (λ z. enters sat z z)
      (λ out low. clear-still (record { address = out; mark = clear.mark; between = λ b g. low (clear.between b g) }))

  -- a line of a channel that is on
  on-steps : c.enabled ≡ true → (ram : List ℕ) → Step s e c (channel_after ram c) (did_on ram c)
  unfolding fetched
  on-steps enabled ram = by_count (counts c enabled)
    where
      as_turn : (t : Turn) → turn_of ram c ≡ t → Step s e c t.channel t.did → Step s e c (channel_after ram c) (did_on ram c)
      as_turn t i h = subst (λ (t : Turn). Step s e c t.channel t.did) (sym i) h

      by_count : Counts c → Step s e c (channel_after ram c) (did_on ram c)
      by_count (acts q i z) =
          let w = word_at ram c.address in
          as_turn _ (turn-acts c enabled ram q i)
          (rw (moves w (fetched (with_pause c 0 q)))
          (word-steps (both (is_pause (kind_of w)) (ltb 0 (low12 w))) (repeats w) (both (loops w) (ltb 0 c.counter))
          (both (is_control (kind_of w)) (int_bit (low12 w))) (stops w) (low12 w) 0 q (Executed (kind_of w) (low12 w)) refl
          (λ t. loop-only w (both_true (loops w) (ltb 0 c.counter) t).0) (λ t. ltb-true 0 c.counter (both_true (loops w) (ltb 0 c.counter) t).1)))
      by_count (sits p q i z) =
          as_turn _ (turn-sits c enabled ram p q i)
          (clear-still (record { address = clear.address; mark = clear.mark; between = clear.between }))

  -- and of one that is off
  off-steps : c.enabled ≡ false → (ram : List ℕ) → Step s e c (channel_after ram c) (did_on ram c)
  unfolding turn_of pause_counted active
  off-steps off ram = rw off (clear-still (record { address = clear.address; mark = clear.mark; between = clear.between }))

  pub line-steps : (ram : List ℕ) → Step s e c (channel_after ram c) (did_on ram c)
  line-steps ram = go c.enabled refl
    where
      go : (b : Bool) → c.enabled ≡ b → Step s e c (channel_after ram c) (did_on ram c)
      go true i = on-steps i ram
      go false i = off-steps i ram

-- ---- over line steps alone
module _ (s e : ℕ) (some : s < e) (small : e ≤ 65536) (even : s % 2 ≡ 0) (n : ℕ) (h : n < 3) where
  by-step :
      {b d : Channel} {did : Did} (ls : List Line) → (In s e b.address → ⊥) → (Clear s e d → EntersAtFirst s e ls) → Step s e b d did →
      EntersAtFirst s e (record { before = b; did = did; after = d } ∷ ls)
  by-step ls out more (clear-still x) = (out, λ i. absurd (x.address i), λ o. more x)
  by-step ls out more (enters f g i) =
      (out, λ j. record { fetched = f; below = g; first = i }, λ o. absurd (o (record { from = omega (arith, i); upto = omega (arith, i) })))

  abbrev Enter : World → List Made → Type 0
  Enter w es = ChannelWidths (channel w.chip n) → Clear s e (channel w.chip n) → EntersAtFirst s e (played_in n es)

  line-enters :
      {w v : World} {c : Call} {a : Accesses} {r : Reply} (es : List Made) (k : Makes w c r v) → Lines w c a → Enter v es →
      Enter w (record { before = w; asks = c; reply = r; after = v } ∷ es)
  line-enters {w} {v} {c} {a} {r} es k l rest widths clear = rw l.sorts (go (eqb r.answer done) refl)
    where
      m : Made
      m = record { before = w; asks = c; reply = r; after = v }

      go : (b : Bool) → eqb r.answer done ≡ b → EntersAtFirst s e (if b (line_of n m ∷ played_in n es) (played_in n es))
      go true z =
          let d = eqb-true _ _ z in
          let moves_so = step-moves n h k l d in
          let after-widths : ChannelWidths (channel v.chip n) = rw moves_so (turn-widths w.lent.ram (channel w.chip n) widths) in
          by-step (played_in n es) clear.address (rest after-widths)
          (rw (moves_so, step-did n h k l d) (line-steps small even (channel w.chip n) widths clear w.lent.ram))
      go false z = let i = refused-is k (eqb-false _ _ z) in rest (rw i widths) (rw i clear)

  -- what the host lends is no call of the chip
  one-enters :
      {w v : World} {c : Call} {r : Reply} (es : List Made) → View w c → Makes w c r v → LinesAlone c → Enter v es →
      Enter w (record { before = w; asks = c; reply = r; after = v } ∷ es)
  one-enters es (feeds b l) k alone rest = absurd alone
  one-enters es (writes ed a b x) k alone rest = absurd alone
  one-enters es (undoes ed x) k alone rest = absurd alone
  one-enters es (steps a l) k alone rest = line-enters es k l rest
  one-enters es (starts o) k alone rest = absurd alone
  one-enters es (lends l) k alone rest = λ widths clear. rest (rw (fixed k).world_is widths) (rw (fixed k).world_is clear)
  one-enters es (plain {c} i q l) k alone rest = absurd (let f : ⊥ = rw i at alone in f)

  pub run_enters : {w v : World} {es : List Made} → Run w es v → Each (λ m. LinesAlone m.asks) es → Enter w es
  run_enters ended alone = λ widths clear. tt
  run_enters (on {w} {c = c} {es = es} k rest) alone = one-enters es (view w c) k alone.0 (run_enters rest alone.1)

-- an address is never in a room that ends before it starts
none-enters : (s e : ℕ) → e ≤ s → (ls : List Line) → EntersAtFirst s e ls
none-enters s e h [] = tt
none-enters s e h (l ∷ ls) = (
  λ i. omega (arith, i.from, i.upto),
  λ i. absurd (omega (arith, i.from, i.upto)),
  λ o. none-enters s e h ls,
)

-- ---- after a removal that is served
abbrev used-by : Sound → ℕ → ℕ → Bool
used-by x p n = used_by (channel_of x.channels n) p

none_of_three : (x : Sound) (p : ℕ) → in_use_of x p ≡ false → (used-by x p 0 ≡ false) × (used-by x p 1 ≡ false) × (used-by x p 2 ≡ false)
unfolding in_use_of
none_of_three x p f =
    let (a, g) = neither (used-by x p 0) (either (used-by x p 1) (used-by x p 2)) f in
    let (b, c) = neither (used-by x p 1) (used-by x p 2) g in
    (a, b, c)

unused : (x : Sound) (n p : ℕ) → n < 3 → in_use_of x p ≡ false → used-by x p n ≡ false
unused x zero p h f = (none_of_three x p f).0
unused x (suc zero) p h f = (none_of_three x p f).1
unused x (suc (suc zero)) p h f = (none_of_three x p f).2
unused x (suc (suc (suc n))) p h f = absurd (omega arith)

pub freed-enters :
    {begun w v u : World} {log es : List Made} {r : Reply} (n k : ℕ) → n < 3 → Reached begun log w → Makes w (remove k) r v →
    r.answer ≡ done → (channel w.chip n).enabled ≡ true → Run v es u → Each (λ m. LinesAlone m.asks) es →
    EntersAtFirst (start_at w k) (end_at w k) (played_in n es)
unfolding end_of
freed-enters {w = w} {v = v} {es = es} n k h reached made z enabled run alone =
    either_side (start_at w k) (end_at w k)
    (λ some.
    let p = place_at w.lent.slots k in
    let idle = (removal_served (lists_of w.chip) k (in_use_of w.chip.sound p) (sym (served-answer made) ∙ z)).idle in
    let clear = unused-clear p (channel w.chip n) some enabled (unused w.chip.sound n p h idle) in
    let same : v ≡ served_world w (remove k) = served-is made z in
    run_enters (start_at w k) (end_at w k) some (omega arith) (start-even p) n h run alone
    (rw same ((within reached).channel n)) (rw same clear))
    (λ none. none-enters (start_at w k) (end_at w k) none (played_in n es))
