-- The promise that a run cites for each call is all that a caller learns of it from its contract.
use mathlib.Core.Path.{◌≡◌, refl}
use mathlib.Core.Bool.{Bool}
use mathlib.Core.List.{List}
use Prim.Native.Nat.{ℕ}
use contract.Lifetimes.{Lfts}
use denote.Ref.{Bor, MutBor, at_last}
use Rattle.common.specs.Answers.{done}
use Rattle.editors.specs.declared.Editor.{Editor}
use Rattle.editors.specs.declared.Owners.{Owners}
use Rattle.sound.specs.declared.Accesses.{Accesses}
use Rattle.chip.specs.declared.Chip.{Chip}
use Rattle.chip.specs.declared.Answered.{Answered}
use Rattle.chip.specs.declared.Acknowledged.{Acknowledged}
use Rattle.chip.specs.declared.Stepped.{Stepped}
use Rattle.chip.specs.Promises.{Answers}
use Rattle.chip.specs.Ports.{Selects, data_answer, data_written, gate_answer, gate_written}
use Rattle.chip.specs.Interrupts.{Acknowledges}
use Rattle.chip.specs.Reset.{Reset}
use Rattle.chip.specs.Step.{Steps}
use Rattle.chip.specs.Mute.{mute_answer, mute_set}
use Rattle.chip.specs.Editors.{started}
use Rattle.line.specs.Contract.{Shows}
use Rattle.placing.specs.Contract.{GivesArea, PlacesList, RemovesList}
use Rattle.placing.specs.declared.PlacedList.{PlacedList}
use Rattle.page.specs.declared.ByteRead.{ByteRead}
use Rattle.page.specs.Page.{Reads, Writes}
use Rattle.page.specs.Undo.{Undoes}
use Rattle.chip.proofs.ports.write_bc.Reads as write_bc
use Rattle.chip.proofs.ports.write_bd.Reads as write_bd
use Rattle.chip.proofs.ports.write_7f.Reads as write_7f
use Rattle.chip.proofs.acknowledge.acknowledge.Reads as acknowledge
use Rattle.chip.proofs.start.reset.Reads as reset
use Rattle.chip.proofs.line.step.Reads as chip_step
use Rattle.chip.proofs.mute.mute.Reads as chip_mute
use Rattle.line.proofs.line.Reads as line_shown
use Rattle.chip.proofs.table.start.Reads as table_start
use Rattle.placing.proofs.area.Reads as placing_area
use Rattle.placing.proofs.place.Reads as placing_place
use Rattle.placing.proofs.remove.Reads as placing_remove
use Rattle.page.proofs.page_read.Reads as page_read
use Rattle.page.proofs.page_write.Reads as page_write
use Rattle.page.proofs.undo.Reads as page_undo

pub from_reset : (c : Chip) → ◌≡◌ {A = Type 0} (reset.Learnt tt tt c tt) (Reset c)
from_reset c = refl

module _ (c : Chip) where
  pub by_bc : (b : ℕ) (r : Answered) → ◌≡◌ {A = Type 0} (write_bc.Learnt tt (c, (b, tt)) r (c, (b, tt))) (Selects c b r)
  by_bc b r = refl

  pub by_bd :
      (b : ℕ) (r : Answered) →
      ◌≡◌ {A = Type 0} (write_bd.Learnt tt (c, (b, tt)) r (c, (b, tt))) (Answers (data_answer c) (data_written c b) c r)
  by_bd b r = refl

  pub by_gate :
      (b : ℕ) (r : Answered) →
      ◌≡◌ {A = Type 0} (write_7f.Learnt tt (c, (b, tt)) r (c, (b, tt))) (Answers (gate_answer b) (gate_written c b) c r)
  by_gate b r = refl

  pub by_read :
      (κs : Lfts 1) (e : Editor) (store : Bor (List ℕ)) (a bus : ℕ) (r : ByteRead) →
      ◌≡◌ {A = Type 0} (page_read.Learnt κs (c, (e, (store, (a, (bus, tt))))) r (c, (e, (store, (a, (bus, tt))))))
      (Reads c e store.now a bus r)
  by_read κs e store a bus r = refl

  pub by_write :
      (κs : Lfts 2) (e : Editor) (store places : MutBor (List ℕ)) (store' places' : List ℕ) (a b : ℕ) (r : Answered) →
      ◌≡◌ {A = Type 0}
      (page_write.Learnt κs (c, (e, (store, (places, (a, (b, tt)))))) r
      (c, (e, (at_last store store', (at_last places places', (a, (b, tt)))))))
      (Writes c e store.now places.now a b store' places' r)
  by_write κs e store places store' places' a b r = refl

  pub by_undo :
      (κs : Lfts 2) (e : Editor) (store : MutBor (List ℕ)) (places : Bor (List ℕ)) (store' : List ℕ) (r : Answered) →
      ◌≡◌ {A = Type 0} (page_undo.Learnt κs (c, (e, (store, (places, tt)))) r (c, (e, (at_last store store', (places, tt)))))
      (Undoes c e store.now places.now store' r)
  by_undo κs e store places store' r = refl

  pub by_ack : (r : Acknowledged) → ◌≡◌ {A = Type 0} (acknowledge.Learnt tt (c, tt) r (c, tt)) (Acknowledges c r)
  by_ack r = refl

  pub by_line :
      (κs : Lfts 3) (ram store : Bor (List ℕ)) (line : MutBor (List ℕ)) (line' : List ℕ) (a : Accesses) (r : Stepped) →
      ◌≡◌ {A = Type 0}
      (line_shown.Learnt κs (c, (ram, (store, (line, (a, tt))))) r (c, (ram, (store, (at_last line line', (a, tt))))))
      (Shows c ram.now store.now a line.now line' r)
  by_line κs ram store line line' a r = refl

  pub by_step :
      (κs : Lfts 1) (ram : Bor (List ℕ)) (a : Accesses) (r : Stepped) →
      ◌≡◌ {A = Type 0} (chip_step.Learnt κs (c, (ram, (a, tt))) r (c, (ram, (a, tt)))) (Steps c ram.now a r)
  by_step κs ram a r = refl

  pub by_start :
      (o : Owners) (r : Answered) →
      ◌≡◌ {A = Type 0} (table_start.Learnt tt (c, (o, tt)) r (c, (o, tt))) (Answers done (started c o) c r)
  by_start o r = refl

  pub by_area :
      (from upto : ℕ) (r : Answered) →
      ◌≡◌ {A = Type 0} (placing_area.Learnt tt (c, (from, (upto, tt))) r (c, (from, (upto, tt)))) (GivesArea c from upto r)
  by_area from upto r = refl

  pub by_place :
      (κs : Lfts 3) (slots ram : MutBor (List ℕ)) (list : Bor (List ℕ)) (slots' ram' : List ℕ) (r : PlacedList) →
      ◌≡◌ {A = Type 0}
      (placing_place.Learnt κs (c, (slots, (ram, (list, tt)))) r (c, (at_last slots slots', (at_last ram ram', (list, tt)))))
      (PlacesList c slots.now ram.now list.now slots' ram' r)
  by_place κs slots ram list slots' ram' r = refl

  pub by_remove :
      (κs : Lfts 1) (slots : Bor (List ℕ)) (handle : ℕ) (r : Answered) →
      ◌≡◌ {A = Type 0} (placing_remove.Learnt κs (c, (slots, (handle, tt))) r (c, (slots, (handle, tt))))
      (RemovesList c slots.now handle r)
  by_remove κs slots handle r = refl

  pub by_mute :
      (n : ℕ) (on : Bool) (r : Answered) →
      ◌≡◌ {A = Type 0} (chip_mute.Learnt tt (c, (n, (on, tt))) r (c, (n, (on, tt)))) (Answers (mute_answer n) (mute_set c n on) c r)
  by_mute n on r = refl
