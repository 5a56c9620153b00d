-- 01, "Numbers to hold against it": the starred ones, as one list of cases, and what each case claims.
use Rattle.std.specs.Prelude.{◌≡◌, List, [], ◌∷◌, ℕ, ◌+◌, ◌*◌, ◌/◌, ◌%◌, ◌<◌, ◌≤◌, length, get_or}
use Rattle.common.specs.Answers.{done}
use Rattle.common.specs.Sizes.{ram_bytes}
use Rattle.sound.specs.declared.Channel.{Channel}
use Rattle.sound.specs.Channels.{word_at}
use Rattle.sound.specs.Line.{channel_after}
use Rattle.picture.specs.Pens.{width_of, pen}
use Rattle.picture.specs.Screen.{character_at, byte_address, row_line}
use Rattle.forecast.specs.Rule.{Has, answer_of, lines_forecast, cycles_forecast}
use Rattle.forecast.specs.Demand.{Ready}

-- `forecasts`: words, prescale, lines, cycles. `ends`: a word at an address, its lines, and the channel's address then. `shows`: a
-- screen address, RC, and where the character's first byte lies. `pens`: a mode, a screen byte, its pens in order
pub data Case : Type 0 where
  forecasts : List ℕ → ℕ → ℕ → ℕ → Case
  ends : ℕ → ℕ → ℕ → ℕ → Case
  shows : ℕ → ℕ → ℕ → Case
  pens : ℕ → ℕ → List ℕ → Case

abbrev pub cases : List Case
cases =
    forecasts (0x4020 ∷ []) 0 1 2 ∷
    forecasts (0x0738 ∷ 0x1002 ∷ 0x4020 ∷ []) 0 4 13 ∷
    forecasts (0x0738 ∷ 0x1002 ∷ 0x4020 ∷ []) 2 8 13 ∷
    forecasts (0x2003 ∷ 0x080f ∷ 0x4001 ∷ 0x4020 ∷ []) 0 10 48 ∷
    forecasts (0x2001 ∷ 0x1003 ∷ 0x4001 ∷ 0x4001 ∷ 0x4020 ∷ []) 1 17 14 ∷
    forecasts (0x1000 ∷ 0x4020 ∷ []) 5 2 4 ∷
    forecasts (0x2005 ∷ 0x4031 ∷ []) 0 2 4 ∷
    ends 0x4020 0xfffe 1 0x0000 ∷
    shows 0x3000 0 0xc000 ∷
    shows 0x3000 1 0xc800 ∷
    shows 0x33ff 0 0xc7fe ∷
    shows 0x3400 0 0xc000 ∷
    pens 1 0x80 (1 ∷ 0 ∷ 0 ∷ 0 ∷ []) ∷
    pens 0 0x20 (4 ∷ 0 ∷ []) ∷
    pens 0 0x02 (8 ∷ 0 ∷ []) ∷
    []

-- a forecast row: for every RAM of 65,536 bytes that has these words at an even start, the forecast is served with these numbers
pub record Forecast (ws : List ℕ) (prescale lines cycles : ℕ) (ram : List ℕ) (start : ℕ) : Type 0 where
  pub answer : answer_of ram start ≡ done
  pub forecast-lines : lines_forecast ram start prescale ≡ lines
  pub forecast-cycles : cycles_forecast ram start ≡ cycles

-- the list of one word: its forecast, which is served, and the channel after the line on which it is played
pub record End (w a lines address : ℕ) (ram : List ℕ) : Type 0 where
  pub answer : answer_of ram a ≡ done
  pub forecast-lines : lines_forecast ram a 0 ≡ lines
  pub then : (c : Channel) → Ready a 0 c → (channel_after ram c).address ≡ address

-- the pens of a byte are so many, and these
pub record Pens (mode b : ℕ) (ps : List ℕ) : Type 0 where
  pub count : length ps ≡ 8 / width_of mode
  pub each : (q : ℕ) → q < length ps → pen (width_of mode) b q ≡ get_or ps q 0

abbrev pub Claim : Case → Type 0
Claim (forecasts ws prescale lines cycles) =
    (ram : List ℕ) (start : ℕ) → length ram ≡ ram_bytes → start % 2 ≡ 0 → start + length ws * 2 ≤ ram_bytes → Has ram start ws →
    Forecast ws prescale lines cycles ram start
Claim (ends w a lines address) = (ram : List ℕ) → length ram ≡ ram_bytes → word_at ram a ≡ w → End w a lines address ram
Claim (shows address rc b) = byte_address (character_at address 0) (row_line rc 0) 0 ≡ b
Claim (pens mode b ps) = Pens mode b ps

-- all of them
abbrev pub All : List Case → Type 0
All [] = Unit {0}
All (k ∷ ks) = Claim k × All ks
