-- 01, "Lock and ports": after any run of calls from reset the chip is unlocked exactly as the two patterns say of the bytes to BCxx.
use mathlib.Core.Path.{◌≡◌, refl}
use mathlib.Core.List.{List, []}
use Prim.Native.Nat.{ℕ}
use Rattle.lock.specs.History.{unlocked_by}
use Rattle.lock.specs.Machine.{Tracks}
use Rattle.lock.proofs.Steps.{feeds as fed-lock}
use Rattle.editors.specs.declared.Editor.{Editor}
use Rattle.chip.specs.declared.Chip.{Chip}
use Rattle.chip.specs.Editors.{started}
use Rattle.chip.specs.Ports.{selected}
use Rattle.chip.specs.Step.{stepped as stepped_chip, counters_stepped}
use Rattle.registers.specs.declared.address.Register.{Register}
use Rattle.registers.specs.declared.address.Register.TheVariants.{Pixel, Sprite, Palette, Video, Ivr, Converter, Channel, Dcsr, Status, Empty}
use Rattle.registers.specs.Address.{register_at}
use Rattle.registers.specs.Registers.{register_written}
use Rattle.runs.specs.World.{World}
use Rattle.runs.specs.Call.{Call, world_after}
use Rattle.runs.specs.Sort.{sort_of}
use Rattle.runs.specs.Run.{Made, Run, ended, on}
use Rattle.runs.specs.Reached.{Reached, fed_by, fed_over}
use Rattle.runs.proofs.Calls.{by_answer, fixed}
use Rattle.runs.proofs.Views.{Edits, View, feeds, writes, undoes, steps, starts, lends, plain, view}

-- no page write touches the lock
page_lock : (c : Chip) (ed : Editor) (x : Register) (b : ℕ) → (register_written c ed x b).lock ≡ c.lock
page_lock c ed (Pixel i) b = refl
page_lock c ed (Sprite n p) b = refl
page_lock c ed (Palette i) b = refl
page_lock c ed (Video v) b = refl
page_lock c ed Ivr b = refl
page_lock c ed Converter b = refl
page_lock c ed (Channel n r) b = refl
page_lock c ed Dcsr b = refl
page_lock c ed Status b = refl
page_lock c ed Empty b = refl

-- an edit
edit_lock : {w v : World} {ed : Editor} {address byte : ℕ} → Edits w v ed address byte → v.chip.lock ≡ w.chip.lock
edit_lock {w} {ed = ed} {address = address} {byte = byte} e = rw e.chip (page_lock w.chip ed (register_at address) byte)

-- the lock goes on by the byte of a BCxx write, which is always served, and no other call touches it
call-tracks :
    (w : World) (c : Call) → View w c → (h : List ℕ) → Tracks h w.chip.lock → Tracks (fed_by (sort_of c) h) (world_after w c).chip.lock
unfolding selected stepped_chip counters_stepped started
call-tracks w c (feeds b l) h t = (fed-lock w.chip.lock b _ refl).tracks h t
call-tracks w c (writes ed a b e) h t = by_answer (λ v. Tracks h v.chip.lock) w c (λ z. rw (edit_lock e) t) t
call-tracks w c (undoes ed e) h t = by_answer (λ v. Tracks h v.chip.lock) w c (λ z. rw (edit_lock e) t) t
call-tracks w c (steps a l) h t = rw l.sorts (by_answer (λ v. Tracks h v.chip.lock) w c (λ z. rw l.next t) t)
call-tracks w c (starts o) h t = t
call-tracks w c (lends l) h t = t
call-tracks w c (plain s q l) h t = rw s (by_answer (λ v. Tracks h v.chip.lock) w c (λ z. rw q t) t)

run-tracks : {w v : World} {es : List Made} (h : List ℕ) → Run w es v → Tracks h w.chip.lock → Tracks (fed_over es h) v.chip.lock
run-tracks h ended t = t
run-tracks h (on {w} {v} {c = c} k rest) t =
    let g = fed_by (sort_of c) h in
    run-tracks g rest (let q : Tracks g v.chip.lock = rw (fixed k).world_is (call-tracks w c (view w c) h t) in q)

-- the lock has been fed exactly these bytes
pub tracks : {start w : World} {log : List Made} → Reached start log w → Tracks (fed_over log []) w.chip.lock
tracks p = run-tracks [] p.run p.fresh.tracks

-- so it is unlocked exactly as the patterns say of them
pub unlocked : {start w : World} {log : List Made} → Reached start log w → w.chip.lock.unlocked ≡ unlocked_by (fed_over log [])
unlocked p = (tracks p).patterns
