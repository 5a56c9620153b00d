-- The claim is not empty: for every list and every start at which it fits there is RAM that has its words and RAM that has the mended
-- ones, and on each there are runs of any number of lines, from chips with a fresh channel.
use mathlib.Core.Path.{◌≡◌, refl, ◌∙◌, ap, subst}
use mathlib.Core.List.{List, [], ◌∷◌, map, ◌++◌, append_assoc}
use Prim.Native.Nat.{ℕ, zero, suc, ◌+◌, ◌-◌, ◌*◌, ◌/◌, ◌%◌, ◌<◌, ◌≤◌}
use native.Mathlib.Omega.{arith}
use borrow.Author.Tests.{eq-eqb}
use lib.ListN.{length, length-append, length-replicate, get_or, replicate}
use lib.Seq.{get_or-append-add}
use Rattle.sound.specs.declared.Accesses.{Accesses}
use Rattle.sound.specs.Channels.{word_at}
use Rattle.editors.specs.declared.Editor.TheVariants.{Song, Picture}
use Rattle.mend.specs.Rule.{mended_words}
use Rattle.runs.specs.World.{World, world_of}
use Rattle.runs.specs.Call.{served_world}
use Rattle.runs.specs.Run.{Made, Run, Each, made_over, world_over}
use Rattle.runs.proofs.Calls.{AllPlaces}
use Rattle.runs.proofs.Runs.{run-possible}
use Rattle.forecast.specs.Rule.{Has}
use Rattle.forecast.specs.Demand.{channel}
use Rattle.forecast.proofs.Exist.{line_of, Shown, shown-served, still-shown, no_lend, ready-chip}
use Rattle.forecast.specs.Played.{played_in}
use Rattle.mended_play.specs.Sameness.{Fresh, Fits, Lends}
use Rattle.mended_play.proofs.Words.{mended-length}

-- so many zeros
abbrev zeros : ℕ → List ℕ
zeros n = replicate n 0

zeros-length : (n : ℕ) → length (zeros n) ≡ n
zeros-length n = length-replicate n 0

-- ---- RAM with words at a start, and 0 elsewhere
bytes_of : List ℕ → List ℕ
bytes_of [] = []
bytes_of (w ∷ ws) = w % 256 ∷ w / 256 ∷ bytes_of ws

bytes-length : (ws : List ℕ) → length (bytes_of ws) ≡ length ws * 2
unfolding bytes_of
bytes-length [] = refl
bytes-length (w ∷ ws) = omega (arith, bytes-length ws)

two_bytes : (ram : List ℕ) (a w : ℕ) → a + 2 ≤ 65536 → get_or ram a 0 ≡ w % 256 → get_or ram (a + 1) 0 ≡ w / 256 → word_at ram a ≡ w
unfolding word_at
two_bytes ram a w fits l h = let next : (a + 1) % 65536 ≡ a + 1 = omega (arith, fits) in rw (next, l, h) (omega arith)

module _ (more : List ℕ) where
  -- words behind so many bytes
  has-bytes : (front : List ℕ) (a : ℕ) → length front ≡ a → (ws : List ℕ) → a + length ws * 2 ≤ 65536 → Has (front ++ (bytes_of ws ++ more)) a ws
  unfolding bytes_of
  has-bytes front a e [] fits = tt
  has-bytes front a e (w ∷ ws) fits = (first, subst (λ (l : List ℕ). Has l (a + 2) ws) together (has-bytes (front ++ bytes) (a + 2) longer ws (omega (arith, fits))))
    where
      bytes : List ℕ
      bytes = w % 256 ∷ w / 256 ∷ []

      longer : length (front ++ bytes) ≡ a + 2
      longer = length-append front bytes ∙ omega (arith, e)

      together : (front ++ bytes) ++ (bytes_of ws ++ more) ≡ front ++ (bytes_of (w ∷ ws) ++ more)
      together = append_assoc front bytes (bytes_of ws ++ more)

      ram : List ℕ
      ram = front ++ (bytes_of (w ∷ ws) ++ more)

      byte : (n : ℕ) → get_or ram (a + n) 0 ≡ get_or (bytes_of (w ∷ ws) ++ more) n 0
      byte n = rw (← e) (get_or-append-add front (bytes_of (w ∷ ws) ++ more) n 0)

      first : word_at ram a ≡ w
      first = two_bytes ram a w (omega (arith, fits)) (let here : a ≡ a + 0 = omega arith in rw here (byte 0)) (byte 1)

-- all below 256, where the words are below 65,536
abbrev AllBelow : ℕ → List ℕ → Type 0
AllBelow n [] = Unit {0}
AllBelow n (x ∷ xs) = (x < n) × AllBelow n xs

below-append : (n : ℕ) (xs ys : List ℕ) → AllBelow n xs → AllBelow n ys → AllBelow n (xs ++ ys)
below-append n [] ys h i = i
below-append n (x ∷ xs) ys h i = (h.0, below-append n xs ys h.1 i)

zeros-below : (n k : ℕ) → AllBelow (suc n) (zeros k)
zeros-below n zero = tt
zeros-below n (suc k) = (omega arith, zeros-below n k)

bytes_below : (ws : List ℕ) → AllBelow 65536 ws → AllBelow 256 (bytes_of ws)
unfolding bytes_of
bytes_below [] h = tt
bytes_below (w ∷ ws) h = (omega arith, (omega (arith, h.0), bytes_below ws h.1))

pub record RamWith (start : ℕ) (ws : List ℕ) : Type 0 where
  pub ram : List ℕ
  pub long : length ram ≡ 65536
  pub bytes : AllBelow 65536 ws → AllBelow 256 ram
  pub has : Has ram start ws

pub ram-with : (start : ℕ) (ws : List ℕ) → start + length ws * 2 ≤ 65536 → RamWith start ws
ram-with start ws fits =
    let left = 65536 - (start + length ws * 2) in
    let front = zeros start in
    let more = zeros left in
    record {
      ram = front ++ (bytes_of ws ++ more);
      long =
          length-append front (bytes_of ws ++ more) ∙ rw (length-append (bytes_of ws) more)
          (omega (arith, zeros-length start, bytes-length ws, zeros-length left));
      bytes =
          λ h.
          below-append 256 front (bytes_of ws ++ more) (zeros-below 255 start)
          (below-append 256 (bytes_of ws) more (bytes_below ws h) (zeros-below 255 left));
      has = has-bytes more front start (zeros-length start) ws fits;
    }

-- ---- runs of line steps alone, whatever the processor does on each, on RAM that has the words
module _ (n start : ℕ) (words : List ℕ) where
  all-lend :
      (accesses : List Accesses) (w : World) → Shown w → Has w.lent.ram start words →
      Each (Lends n start words) (made_over w (map line_of accesses)) × (length (played_in n (made_over w (map line_of accesses))) ≡ length accesses)
  all-lend [] w shown has = (tt, refl)
  all-lend (a ∷ as') w shown has =
      let z = shown-served w a shown in
      let rest = all-lend as' (served_world w (line_of a)) (still-shown w a shown) has in (
        (λ y. has, rw (eq-eqb _ _ z) rest.0),
        rw (eq-eqb _ _ z) (ap suc rest.1),
      )

  pub record RunOn (accesses : List Accesses) (w : World) : Type 0 where
    pub log : List Made
    pub last : World
    pub run : Run w log last
    pub lends : Each (Lends n start words) log
    pub lines : length (played_in n log) ≡ length accesses

  pub run_on :
      (accesses : List Accesses) (w : World) → AllPlaces w → Shown w → Has w.lent.ram start words → RunOn accesses w
  run_on accesses w whole shown has =
      let all = all-lend accesses w shown has in
      record {
        log = made_over w (map line_of accesses);
        last = world_over w (map line_of accesses);
        run = run-possible (map line_of accesses) w whole (no_lend accesses);
        lends = all.0;
        lines = all.1;
      }

-- ---- both runs that the claim is about, of any number of lines each
pub record TwoRuns (words : List ℕ) (start n : ℕ) (accesses others : List Accesses) : Type 0 where
  pub old : World
  pub mended : World
  pub fresh : Fresh start (channel old.chip n)
  pub same : channel mended.chip n ≡ channel old.chip n
  pub old-run : RunOn n start words accesses old
  pub mended-run : RunOn n start (mended_words words) others mended

pub two_runs :
    (words : List ℕ) (start : ℕ) → start % 2 ≡ 0 → Fits (mended_words words) start → (n : ℕ) → n < 3 → (accesses others : List Accesses) →
    TwoRuns words start n accesses others
two_runs words start evens fits n h accesses others =
    let chip = ready-chip start 0 in
    let ram = ram-with start words (omega (arith, fits, mended-length words)) in
    let other = ram-with start (mended_words words) fits in
    let w = world_of chip.0 ram.ram (zeros 4096) (zeros 256) (zeros 256) (zeros 64) in
    let x = world_of chip.0 other.ram (zeros 4096) (zeros 256) (zeros 256) (zeros 64) in
    let ready = chip.1 n h in
    record {
      old = w;
      mended = x;
      fresh = record { enabled = ready.enabled; address = ready.address ∙ omega (arith, evens); counter = ready.counter };
      same = refl;
      old-run = run_on n start words accesses w (whole w refl refl) (shown w ram.long refl chip.2) ram.has;
      mended-run = run_on n start (mended_words words) others x (whole x refl refl) (shown x other.long refl chip.2) other.has;
    }
  where
    whole : (w : World) → w.lent.song ≡ zeros 256 → w.lent.picture ≡ zeros 256 → AllPlaces w
    whole w s p Song = rw s (zeros-length 256)
    whole w s p Picture = rw p (zeros-length 256)

    shown : (w : World) → length w.lent.ram ≡ 65536 → w.lent.store ≡ zeros 4096 → w.chip.gate.mode ≡ 0 → Shown w
    shown w r s m = record { ram = r; store = rw s (zeros-length 4096); mode = λ e. omega (arith, m, e) }
