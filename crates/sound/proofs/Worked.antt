-- Serves only the loop of `sound_line`: the line with the channels so far worked through, and that with all three it is
-- the whole line.
use mathlib.Core.Path.{◌≡◌, refl, ap, ◌∙◌}
use mathlib.Core.Bool.{false}
use mathlib.Core.List.{List, [], ◌∷◌}
use Prim.Native.Nat.{ℕ, zero, suc, ◌+◌, ◌*◌, ◌<◌, ◌≤◌}
use native.Mathlib.Omega.{arith}
use native.Mathlib.Numerals.{add-one}
use lib.ListN.{length, set}
use lib.Seq.{set-get_or}
use Rattle.sound.specs.declared.Access.{Access}
use Rattle.sound.specs.declared.Accesses.{Accesses}
use Rattle.sound.specs.declared.Channel.{Channel}
use Rattle.sound.specs.declared.Did.{Did}
use Rattle.sound.specs.declared.Did.TheVariants.{SatOut}
use Rattle.sound.specs.declared.Entry.{Entry}
use Rattle.sound.specs.declared.Sound.{Sound}
use Rattle.sound.specs.declared.SoundLine.{SoundLine}
use Rattle.sound.specs.declared.Turn.{Turn}
use Rattle.sound.specs.Channels.{active, pause_counted, turn_of}
use Rattle.sound.specs.Line.{heard, own_cycles, access_of, channel_of, entry_of, sound_after, sound_report, sound_line}
use Rattle.sound.proofs.Laws.{own-bound}
use Rattle.sound.proofs.Muting.{mark-stays}

-- a turn leaves the mute mark, so what is heard of it is asked after it as well
module _ (ram : List ℕ) (c : Channel) (psg : List ℕ) (turn : Turn) (is : turn ≡ turn_of ram c) where
  mark : turn.channel.muted ≡ c.muted
  mark = rw is (mark-stays ram c)

  still-heard : heard turn.channel psg turn.did ≡ heard c psg turn.did
  still-heard = search mark

-- a channel that is off sits out as it is
off-turn : (ram : List ℕ) (c : Channel) → c.enabled ≡ false → turn_of ram c ≡ record { channel = c; did = SatOut }
unfolding turn_of active pause_counted
off-turn ram c off = rw off refl

-- the loop's variables as one line
abbrev pub line_of : Sound → List Entry → ℕ → SoundLine
line_of s es cycles = record { sound = s; report = record { cycles = cycles; entries = es } }

-- with the turn of channel n, which is c, taken
abbrev taken : SoundLine → ℕ → Access → Channel → Turn → SoundLine
taken l n a c turn =
    line_of
    (record { channels = set l.sound.channels n turn.channel; psg = heard c l.sound.psg turn.did })
    (set l.report.entries n (entry_of turn.did))
    (l.report.cycles + own_cycles a turn.did)

-- channel n in the line so far
abbrev next_in : SoundLine → ℕ → Channel
next_in l n = channel_of l.sound.channels n

-- with the channels below n worked through
abbrev pub worked : List ℕ → Accesses → Sound → ℕ → SoundLine
worked ram acs s zero = line_of s (entry_of SatOut ∷ entry_of SatOut ∷ entry_of SatOut ∷ []) 1
worked ram acs s (suc n) =
    taken (worked ram acs s n) n (access_of acs n) (next_in (worked ram acs s n) n) (turn_of ram (next_in (worked ram acs s n) n))

module _ (ram : List ℕ) (acs : Accesses) (s₀ : Sound) where
  -- by the turn that the code found, what that cost, and the PSG after it
  pub one_more :
      (n cycles own : ℕ) (s : Sound) (es : List Entry) (a : Access) (c : Channel) (turn : Turn) (psg : List ℕ) →
      line_of s es cycles ≡ worked ram acs s₀ n → c ≡ channel_of s.channels n → turn ≡ turn_of ram c → a ≡ access_of acs n →
      own ≡ own_cycles a turn.did → psg ≡ heard turn.channel s.psg turn.did →
      line_of (record { channels = set s.channels n turn.channel; psg = psg }) (set es n (entry_of turn.did)) (cycles + own)
      ≡ worked ram acs s₀ (n + 1)
  one_more n cycles own s es a c turn psg e d f h g p =
      let q : psg ≡ heard c s.psg turn.did = p ∙ still-heard ram c s.psg turn f in
      rw (add-one, ← e, q, g, h, f, d)

  -- a channel that is off is left as it is
  pub off_more :
      (n cycles own : ℕ) (s : Sound) (es : List Entry) (a : Access) (turn : Turn) (psg : List ℕ) →
      line_of s es cycles ≡ worked ram acs s₀ n → turn ≡ turn_of ram (channel_of s.channels n) → a ≡ access_of acs n →
      own ≡ own_cycles a turn.did → psg ≡ heard turn.channel s.psg turn.did → (channel_of s.channels n).enabled ≡ false →
      line_of (record { channels = s.channels; psg = psg }) (set es n (entry_of turn.did)) (cycles + own)
      ≡ worked ram acs s₀ (n + 1)
  off_more n cycles own s es a turn psg e f h g p off =
      let c : Channel = channel_of s.channels n in
      let same : turn.channel ≡ c = ap (λ (t : Turn). t.channel) (f ∙ off-turn ram c off) in
      rw (same, set-get_or) at (one_more n cycles own s es a c turn psg e refl f h g p)

  -- each channel adds at most 11 cycles
  cycles_so_far : (n : ℕ) → (worked ram acs s₀ n).report.cycles ≤ 1 + 11 * n
  cycles_so_far zero = omega arith
  cycles_so_far (suc n) =
      omega (arith, cycles_so_far n, own-bound (access_of acs n) (turn_of ram (next_in (worked ram acs s₀ n) n)).did)

  -- so there is room for one more
  pub room :
      (n cycles own : ℕ) (s : Sound) (es : List Entry) (a : Access) (d : Did) →
      line_of s es cycles ≡ worked ram acs s₀ n → n < 3 → own ≡ own_cycles a d → cycles + own < 256
  room n cycles own s es a d e h g =
      omega (arith, ap (λ (l : SoundLine). l.report.cycles) e, cycles_so_far n, own-bound a d)

pub all-worked : (ram : List ℕ) (acs : Accesses) (s : Sound) → length s.channels ≡ 3 → worked ram acs s 3 ≡ sound_line ram acs s
unfolding sound_after sound_report
all-worked ram acs s h = go s.channels s.psg h
  where
    go :
        (cs : List Channel) (psg : List ℕ) → length cs ≡ 3 →
        worked ram acs (record { channels = cs; psg = psg }) 3 ≡ sound_line ram acs (record { channels = cs; psg = psg })
    go [] psg h = absurd (omega arith)
    go (a ∷ []) psg h = absurd (omega arith)
    go (a ∷ b ∷ []) psg h = absurd (omega arith)
    go (a ∷ b ∷ c ∷ []) psg h = refl
    go (a ∷ b ∷ c ∷ d ∷ cs) psg h = absurd (omega arith)
