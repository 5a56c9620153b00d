-- 02, L12: what the rule that a list in use can't be removed gives: the words of a list that plays stay; and a channel comes to the room of
-- a removed one only by its first word.
use Rattle.std.specs.Prelude.{◌≡◌, true, false, List, [], ◌∷◌, ℕ, ◌+◌, ◌*◌, ◌%◌, ◌<◌, ◌≤◌, length}
use Rattle.common.specs.Answers.{done, list_in_use}
use Rattle.words.specs.Words.{has_stop}
use Rattle.chip.specs.Channels.{LeftAlone}
use Rattle.runs.specs.World.{World}
use Rattle.runs.specs.Call.{Call, remove, Reply}
use Rattle.runs.specs.Sort.{on_line, on_lend}
use Rattle.runs.specs.Run.{Made, Makes, Run, Each}
use Rattle.runs.specs.Reached.{Reached}
use Rattle.forecast.specs.Rule.{words_of}
use Rattle.forecast.specs.Demand.{channel, Lent, Allowed, steps_of, did_over, did_sit, any_stop}
use Rattle.forecast.specs.Played.{Line, played_in}
use Rattle.lists_kept.specs.Session.{HandsRoom, Session}
use Rattle.lists_kept.specs.Kept.{HasList, start_at, end_at}

-- ---- a list that plays

-- channel n begins to play the list of handle k: it is enabled, at the list's first word, with no loop open, and the list has a STOP
pub record Begins (n k : ℕ) (w : World) : Type 0 where
  pub has-list : HasList w k
  pub enabled : (channel w.chip n).enabled ≡ true
  pub address : (channel w.chip n).address ≡ start_at w k
  pub counter : (channel w.chip n).counter ≡ 0
  pub stop : has_stop (words_of w.lent.ram (start_at w k)) ≡ true
  pub within : start_at w k + length (words_of w.lent.ram (start_at w k)) * 2 ≤ end_at w k

-- what is asked of the calls that follow: they hand RAM and the places on, and a served one between the lines leaves the channel alone
pub record Spares (n : ℕ) (e : Made) : Type 0 where
  pub hands : HandsRoom e.asks
  pub alone :
      e.reply.answer ≡ done → on_line (λ a. Unit {0}) (LeftAlone (channel e.before.chip n) (channel e.after.chip n)) e.asks

-- as long as the channel has not executed the STOP: removing the list is refused by 22; and the list's words stay, so that the run so far
-- meets demand 3's premise, and so does a line step that comes next
pub record StaysInUse (n k : ℕ) (w v : World) (es : List Made) : Type 0 where
  pub refused : {u : World} {r : Reply} → Makes v (remove k) r u → r.answer ≡ list_in_use
  pub allowed : Each (Allowed n w.lent.ram (start_at w k)) es
  pub lent : Lent w.lent.ram (start_at w k) v.lent.ram

-- ---- the room of a removed list

-- line steps alone follow; the host may lend other buffers
abbrev pub LinesAlone : Call → Type 0
LinesAlone c = on_line (λ a. Unit {0}) (on_lend (λ l. Unit {0}) ⊥ c) c

-- an address in the room from s up to but not at e
pub record In (s e address : ℕ) : Type 0 where
  pub from : s ≤ address
  pub upto : address < e

-- a line by which a channel comes there: it fetched the word right below, and stands at the room's first word
pub record Enters (s : ℕ) (l : Line) : Type 0 where
  pub fetched : did_sit l.did ≡ false
  pub below : (l.before.address + 2) % 65536 ≡ s
  pub first : l.after.address ≡ s

-- line by line: the channel is not there, up to a line by which it comes there so
abbrev pub EntersAtFirst : ℕ → ℕ → List Line → Type 0
EntersAtFirst s e [] = Unit {0}
EntersAtFirst s e (l ∷ ls) =
    (In s e l.before.address → ⊥) × (In s e l.after.address → Enters s l)
    × ((In s e l.after.address → ⊥) → EntersAtFirst s e ls)

-- ---- the claims: over every session, and every removal from a world reached from reset
pub record RuleKeeps : Type 0 where
  pub in_use :
      {begun w v : World} {log es : List Made} (n k : ℕ) → n < 3 → Session begun log w → Begins n k w → Run w es v → Each (Spares n) es →
      any_stop (did_over n (steps_of es)) ≡ false → StaysInUse n k w v es
  pub freed :
      {begun w v u : World} {log es : List Made} {r : Reply} (n k : ℕ) → n < 3 → Reached begun log w → Makes w (remove k) r v →
      r.answer ≡ done → (channel w.chip n).enabled ≡ true → Run v es u → Each (λ e. LinesAlone e.asks) es →
      EntersAtFirst (start_at w k) (end_at w k) (played_in n es)
