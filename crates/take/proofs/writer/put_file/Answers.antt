-- The three parts stand one after another.
use Rattle.std.proofs.Common.{arith, map}
use Rattle.std.proofs.lemmas.List.{length-map}
use Rattle.common.proofs.Storing.{had-room}
use Rattle.take.specs.Record.{unpacked}
use Rattle.take.proofs.Storing.{length-records, file_put}
use Rattle.take.proofs.writer.put_file.Goals as goal

pub put_records-end-requires : goal.put_records-end-requires
put_records-end-requires c =
    let o = had-room c.put-offset.ensures (omega arith) in
    omega (arith, o.place)

pub put_trailer-requires : goal.put_trailer-requires
put_trailer-requires c =
    let n = c.args.records.now in
    let o = had-room c.put-offset.ensures (omega arith) in
    (omega (arith, o.place, c.put_records-end.ensures.place, length-records (map unpacked n), length-map n unpacked), c.requires.1, omega (arith, o.place))

pub returns : goal.returns
returns c =
    file_put c.args.comment.now c.args.records.now (had-room c.put-offset.ensures (omega arith)) c.put_records-end.ensures
    c.put_trailer.ensures
