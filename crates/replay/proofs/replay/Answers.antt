-- By the lengths, then by the take.
use Rattle.std.proofs.Common.{inl, inr, rules}
use Rattle.replay.proofs.Playing.{opened}
use Rattle.replay.proofs.Ways.{ram_wrong, store_wrong, lengths-right, by_length, by-take, plays}
use Rattle.replay.proofs.replay.Goals as goal

pub returns-then-ram-ne-RAM : goal.returns-then-ram-ne-RAM
returns-then-ram-ne-RAM c =
    let a = c.args in
    by_length
    (elim c.then-ram-ne-RAM.either [
      | inl n ↦ ram_wrong a.ram.now a.store.now a.file.now n
      | inr n ↦ store_wrong a.ram.now a.store.now a.file.now n.0 n.1
    ])
    c.begun.ensures (rw c.number.ensures at c.told.ensures)

pub returns-then-opened-ne-DONE : goal.returns-then-opened-ne-DONE
returns-then-opened-ne-DONE c =
    let a = c.args in
    by-take (lengths-right a.ram.now a.store.now a.file.now c.if-ram-ne-RAM.false c.if-store-ne-STORE.false) c.open-opened.ensures
    c.if-opened-ne-DONE.true c.begun-then-opened-ne-DONE.ensures c.told-then-opened-ne-DONE.ensures

pub records-requires : goal.records-requires
records-requires c =
    (c.if-ram-ne-RAM.false, opened (λ i. (c.type_inv.file i).fits) c.open-opened.ensures c.if-opened-ne-DONE.false)

pub returns : goal.returns
returns c =
    let a = c.args in
    let kept = c.records.ensures.kept in
    plays c.records.result c.records.new.self
    (lengths-right a.ram.now a.store.now a.file.now c.if-ram-ne-RAM.false c.if-store-ne-STORE.false) c.open-opened.ensures
    c.if-opened-ne-DONE.false (rw kept.ram) (search rules) (search rules) (search rules) c.records.ensures.played c.told-2.ensures
