-- Calls made one after the other, each known by its contract alone, as a caller learns it. The crate's proofs hold each promise named here to
-- the contract of the call (proofs/Contracts.antt).
use Rattle.std.specs.Prelude.{◌≡◌, Bool, List, [], ◌∷◌, map, ℕ, length}
use Rattle.common.specs.Answers.{done}
use Rattle.editors.specs.declared.Editor.{Editor}
use Rattle.editors.specs.declared.Owners.{Owners}
use Rattle.sound.specs.declared.Accesses.{Accesses}
use Rattle.chip.specs.declared.Answered.{Answered}
use Rattle.chip.specs.declared.Acknowledged.{Acknowledged}
use Rattle.chip.specs.declared.Stepped.{Stepped}
use Rattle.chip.specs.Promises.{Answers}
use Rattle.chip.specs.Ports.{Selects, data_answer, data_written, gate_answer, gate_written}
use Rattle.chip.specs.Interrupts.{Acknowledges}
use Rattle.chip.specs.Step.{Steps}
use Rattle.chip.specs.Mute.{mute_answer, mute_set}
use Rattle.chip.specs.Editors.{started}
use Rattle.line.specs.Contract.{Shows}
use Rattle.placing.specs.Contract.{GivesArea, PlacesList, RemovesList}
use Rattle.placing.specs.declared.PlacedList.{PlacedList}
use Rattle.page.specs.declared.ByteRead.{ByteRead}
use Rattle.page.specs.Page.{Reads, Writes}
use Rattle.page.specs.Undo.{Undoes}
use Rattle.runs.specs.World.{World, places_of, with_chip, edited, roomed, Loan, lent_by}
use Rattle.runs.specs.Call as call
use Rattle.runs.specs.Call.{Call, Reply, byte, vector, report, placed, number, reply_to, world_after}

-- a call made on a world: its reply, and the world that it leaves
pub data Makes (w : World) : Call → Reply → World → Type 0 where
  bc : (b : ℕ) (r : Answered) → Selects w.chip b r → Makes w (call.bc b) (number r.answer) (with_chip w r.chip)
  bd :
      (b : ℕ) (r : Answered) → Answers (data_answer w.chip) (data_written w.chip b) w.chip r →
      Makes w (call.bd b) (number r.answer) (with_chip w r.chip)
  gate :
      (b : ℕ) (r : Answered) → Answers (gate_answer b) (gate_written w.chip b) w.chip r →
      Makes w (call.gate b) (number r.answer) (with_chip w r.chip)
  read :
      (e : Editor) (a bus : ℕ) (r : ByteRead) → Reads w.chip e w.lent.store a bus r →
      Makes w (call.read e a bus) (record { answer = r.answer; told = byte r.byte }) w
  write :
      (e : Editor) (store' places' : List ℕ) (a b : ℕ) (r : Answered) →
      Writes w.chip e w.lent.store (places_of w.lent e) a b store' places' r →
      Makes w (call.write e a b) (number r.answer) (edited w e r.chip store' places')
  undo :
      (e : Editor) (store' : List ℕ) (r : Answered) → Undoes w.chip e w.lent.store (places_of w.lent e) store' r →
      Makes w (call.undo e) (number r.answer) (edited w e r.chip store' (places_of w.lent e))
  ack :
      (r : Acknowledged) → Acknowledges w.chip r →
      Makes w call.ack (record { answer = r.answer; told = vector r.vector }) (with_chip w r.chip)
  line :
      (line line' : List ℕ) (a : Accesses) (n : ℕ) (r : Stepped) → length line ≡ n →
      Shows w.chip w.lent.ram w.lent.store a line line' r →
      Makes w (call.line a n) (record { answer = r.answer; told = report r.report }) (with_chip w r.chip)
  step :
      (a : Accesses) (r : Stepped) → Steps w.chip w.lent.ram a r →
      Makes w (call.step a) (record { answer = r.answer; told = report r.report }) (with_chip w r.chip)
  start :
      (o : Owners) (r : Answered) → Answers done (started w.chip o) w.chip r →
      Makes w (call.start o) (number r.answer) (with_chip w r.chip)
  area :
      (from upto : ℕ) (r : Answered) → GivesArea w.chip from upto r →
      Makes w (call.area from upto) (number r.answer) (with_chip w r.chip)
  place :
      (list slots' ram' : List ℕ) (r : PlacedList) → PlacesList w.chip w.lent.slots w.lent.ram list slots' ram' r →
      Makes w (call.place list) (record { answer = r.answer; told = placed r.address r.handle }) (roomed w r.chip ram' slots')
  remove :
      (handle : ℕ) (r : Answered) → RemovesList w.chip w.lent.slots handle r →
      Makes w (call.remove handle) (number r.answer) (with_chip w r.chip)
  mute :
      (n : ℕ) (on : Bool) (r : Answered) → Answers (mute_answer n) (mute_set w.chip n on) w.chip r →
      Makes w (call.mute n on) (number r.answer) (with_chip w r.chip)
  lend : (l : Loan) → Makes w (call.lend l) (number done) (record { chip = w.chip; lent = lent_by l w.lent })

-- one call of a run: the world before it, the call, its reply, the world after it
pub record Made : Type 0 where
  pub before : World
  pub asks : Call
  pub reply : Reply
  pub after : World

-- a run: each call gets the world that the last one left
pub data Run : World → List Made → World → Type 0 where
  ended : {w : World} → Run w [] w
  on :
      {w v u : World} {c : Call} {r : Reply} {es : List Made} → Makes w c r v → Run v es u →
      Run w (record { before = w; asks = c; reply = r; after = v } ∷ es) u

-- its calls
abbrev pub calls_of : List Made → List Call
calls_of es = map (λ (e : Made). e.asks) es

-- what holds of each of them
abbrev pub Each : (Made → Type 0) → List Made → Type 0
Each P [] = Unit {0}
Each P (e ∷ es) = P e × Each P es

-- ---- the same by the calls' functions: a law says that every run is so, and that there is one for every list of calls
abbrev pub made_over : World → List Call → List Made
made_over w [] = []
made_over w (c ∷ cs) =
    record { before = w; asks = c; reply = reply_to w c; after = world_after w c } ∷ made_over (world_after w c) cs

abbrev pub world_over : World → List Call → World
world_over w [] = w
world_over w (c ∷ cs) = world_over (world_after w c) cs
