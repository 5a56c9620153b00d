-- The starred numbers, by one computed test over the list of them and a law that turns the test into the claim.
use mathlib.Core.Path.{◌≡◌, refl, ◌∙◌, ap}
use mathlib.Core.Bool.{Bool, true, false, not}
use mathlib.Core.List.{List, [], ◌∷◌}
use Prim.Native.Nat.{ℕ, zero, suc, ◌+◌, ◌*◌, ◌/◌, ◌%◌, ◌<◌, ◌≤◌}
use native.Mathlib.Nat.{add-zero, zero-add}
use native.Mathlib.Omega.{arith}
use lib.Dec.{T, eqb, ltb, eqb→eq, ltb→lt}
use lib.ListN.{length, get_or}
use Rattle.common.specs.Choice.{both}
use Rattle.sound.specs.declared.Access.TheVariants.{Off}
use Rattle.sound.specs.declared.Channel.{Channel}
use Rattle.sound.specs.declared.Turn.{Turn}
use Rattle.sound.specs.Channels.{word_at, pause_counted, fetched, with_pause}
use Rattle.sound.specs.Line.{channel_after}
use Rattle.picture.specs.Pens.{width_of, pen}
use Rattle.picture.specs.Screen.{character_at, byte_address, row_line}
use Rattle.words.specs.Words.{repeats, loops, stops, has_stop}
use Rattle.forecast.specs.Rule.{Has, closes, open_count, passes, lines_of, cycles_of, words_of, total, even, lines_forecast, cycles_meeting}
use Rattle.forecast.specs.Demand.{Ready}
use Rattle.forecast.specs.Examples.{Case, forecasts, ends, shows, pens, cases, Claim, All}
use Rattle.forecast.proofs.Words.{words-stop, words_more}
use Rattle.forecast.proofs.Waits.{turn-acts}
use Rattle.forecast.proofs.Moves.{moves}
use Rattle.forecast.proofs.Answer.{answer-served}

-- the test's two halves
left : (a b : Bool) → T (both a b) → T a
left true b t = tt
left false b t = t

right : (a b : Bool) → T (both a b) → T b
right true b t = t
right false b t = absurd t

is : (b : Bool) → T b → b ≡ true
is true t = refl
is false t = absurd t

isn't : (b : Bool) → T (not b) → b ≡ false
isn't true t = absurd t
isn't false t = refl

-- the words end in their only STOP
ended : List ℕ → Bool
ended [] = false
ended (w ∷ []) = stops w
ended (w ∷ v ∷ ws) = both (not (stops w)) (ended (v ∷ ws))

-- such words in RAM are the words of the list there
listed : (ram : List ℕ) (a : ℕ) (ws : List ℕ) → a + length ws * 2 ≤ 65536 → Has ram a ws → T (ended ws) → words_of ram a ≡ ws
unfolding ended
listed ram a [] room has t = absurd t
listed ram a (w ∷ []) room has t =
    words-stop ram a (omega arith) (ap stops has.0 ∙ is (stops w) t) ∙ ap (λ (x : ℕ). x ∷ []) has.0
listed ram a (w ∷ v ∷ ws) room has t =
    words_more ram a (omega arith) (ap stops has.0 ∙ isn't (stops w) (left (not (stops w)) (ended (v ∷ ws)) t))
    ∙ rw has.0 (ap (λ (l : List ℕ). w ∷ l)
    (listed ram (a + 2) (v ∷ ws) (omega arith) has.1 (right (not (stops w)) (ended (v ∷ ws)) t)))

-- they have a STOP
stopped : (ws : List ℕ) → T (ended ws) → has_stop ws ≡ true
unfolding ended has_stop
stopped [] t = absurd t
stopped (w ∷ []) t = simp (is (stops w) t)
stopped (w ∷ v ∷ ws) t =
    simp (
      isn't (stops w) (left (not (stops w)) (ended (v ∷ ws)) t),
      stopped (v ∷ ws) (right (not (stops w)) (ended (v ∷ ws)) t),
    )

-- the pens, one after another from q on
penned : ℕ → ℕ → ℕ → List ℕ → Bool
penned width b q [] = true
penned width b q (p ∷ ps) = both (eqb (pen width b q) p) (penned width b (suc q) ps)

-- the test of a case
test : Case → Bool
test (forecasts ws n lines cycles) =
    both (ended ws) (both (eqb (total (lines_of n) 0 ws) lines) (eqb (total (cycles_of Off) 0 ws) cycles))
test (ends w a lines address) =
    both (ended (w ∷ []))
    (both (eqb (total (lines_of 0) 0 (w ∷ [])) lines)
    (both (eqb (a % 2) 0) (both (ltb (a + 1) 65536) (eqb ((a + 2) % 65536) address))))
test (shows address rc b) = eqb (byte_address (character_at address 0) (row_line rc 0) 0) b
test (pens mode b ps) = both (eqb (length ps) (8 / width_of mode)) (penned (width_of mode) b 0 ps)

tests : List Case → Bool
tests [] = true
tests (k ∷ ks) = both (test k) (tests ks)

same-even : (start : ℕ) → start % 2 ≡ 0 → even start ≡ start
same-even start e = omega arith

-- a forecast row
row :
    (ws : List ℕ) (n lines cycles : ℕ) → T (test (forecasts ws n lines cycles)) → Claim (forecasts ws n lines cycles)
unfolding test lines_forecast cycles_meeting
row ws n lines cycles t ram start long evens room has =
    let sums = eqb (total (lines_of n) 0 ws) lines in
    let costs = eqb (total (cycles_of Off) 0 ws) cycles in
    let end = left (ended ws) (both sums costs) t in
    let both_right = right (ended ws) (both sums costs) t in
    let words : words_of ram (even start) ≡ ws = rw (same-even start evens) (listed ram start ws room has end) in
    record {
      answer = answer-served ram start long (rw words (stopped ws end));
      forecast-lines = rw words (eqb→eq _ _ (left sums costs both_right));
      forecast-cycles = rw words (eqb→eq _ _ (right sums costs both_right));
    }

-- a ready channel goes on to the next word, whatever its first is
both_false : (b : Bool) → both b false ≡ false
both_false true = refl
both_false false = refl

goes_on : (ram : List ℕ) (a n : ℕ) (c : Channel) → Ready a n c → (channel_after ram c).address ≡ (even a + 2) % 65536
unfolding pause_counted fetched
goes_on ram a n c r =
    let stays : pause_counted c ≡ c = simp (r.enabled, r.pause) in
    let acts : pause_counted c ≡ with_pause c 0 c.count = stays ∙ ap (λ p. with_pause c p c.count) r.pause in
    ap (λ (t : Turn). t.channel.address) (turn-acts c r.enabled ram c.count acts)
    ∙ ap (λ (d : Channel). d.address) (moves (word_at ram c.address) (fetched (with_pause c 0 c.count)))
    ∙ simp (r.counter, both_false, r.address)

-- a list of one word
alone : (w a lines address : ℕ) → T (test (ends w a lines address)) → Claim (ends w a lines address)
unfolding test lines_forecast
alone w a lines address t ram long has =
    let sums = eqb (total (lines_of 0) 0 (w ∷ [])) lines in
    let evens = eqb (a % 2) 0 in
    let low = ltb (a + 1) 65536 in
    let on = eqb ((a + 2) % 65536) address in
    let end = left (ended (w ∷ [])) (both sums (both evens (both low on))) t in
    let t₁ = right (ended (w ∷ [])) (both sums (both evens (both low on))) t in
    let t₂ = right sums (both evens (both low on)) t₁ in
    let t₃ = right evens (both low on) t₂ in
    let e : even a ≡ a = same-even a (eqb→eq _ _ (left evens (both low on) t₂)) in
    let room : a + 1 * 2 ≤ 65536 = omega (arith, ltb→lt (a + 1) 65536 (left low on t₃)) in
    let words : words_of ram (even a) ≡ w ∷ [] = rw e (listed ram a (w ∷ []) room (has, tt) end) in
    record {
      answer = answer-served ram a long (rw words (stopped (w ∷ []) end));
      forecast-lines = rw words (eqb→eq _ _ (left sums (both evens (both low on)) t₁));
      then = λ c r. goes_on ram a 0 c r ∙ rw e (eqb→eq _ _ (right low on t₃));
    }

-- the pens
each-pen :
    (width b from : ℕ) (ps : List ℕ) → T (penned width b from ps) → (q : ℕ) → q < length ps → pen width b (from + q) ≡ get_or ps q 0
unfolding penned
each-pen width b from [] t q h = absurd (omega arith)
each-pen width b from (p ∷ ps) t zero h =
    rw (add-zero from) (eqb→eq _ _ (left (eqb (pen width b from) p) (penned width b (suc from) ps) t))
each-pen width b from (p ∷ ps) t (suc q) h =
    let e : from + suc q ≡ suc from + q = omega arith in
    rw e (each-pen width b (suc from) ps (right (eqb (pen width b from) p) (penned width b (suc from) ps) t) q (omega arith))

claimed : (k : Case) → T (test k) → Claim k
unfolding test
claimed (forecasts ws n lines cycles) t = row ws n lines cycles t
claimed (ends w a lines address) t = alone w a lines address t
claimed (shows address rc b) t = eqb→eq _ _ t
claimed (pens mode b ps) t =
    record {
      count = eqb→eq _ _ (left (eqb (length ps) (8 / width_of mode)) (penned (width_of mode) b 0 ps) t);
      each =
          λ q h.
          rw (zero-add q) at
          (each-pen (width_of mode) b 0 ps (right (eqb (length ps) (8 / width_of mode)) (penned (width_of mode) b 0 ps) t) q h);
    }

all-claimed : (ks : List Case) → T (tests ks) → All ks
unfolding tests
all-claimed [] t = tt
all-claimed (k ∷ ks) t = (claimed k (left (test k) (tests ks) t), all-claimed ks (right (test k) (tests ks) t))

-- every starred number of the document
pub examples : All cases
unfolding tests test ended penned stops loops repeats closes open_count passes total lines_of cycles_of pen byte_address Rattle.words.specs.Words.kind_of
examples = all-claimed cases tt
