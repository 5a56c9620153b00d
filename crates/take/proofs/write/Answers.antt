-- The answer, then the file, which reads back.
use Rattle.take.proofs.Writing.{served-fits, not_written, written}
use Rattle.take.proofs.Files.{written_back}
use Rattle.take.proofs.write.Goals as goal

pub returns-in-Err : goal.returns-in-Err
returns-in-Err c =
    rw (c.number.ensures, c.unwrap_or.ensures)
    (written_back (not_written _ _ _ c.of_numbers-bad.result c.of_numbers-bad.ensures c.in-Err.refusal c.in-Err.ensures))

pub put_file-size-requires : goal.put_file-size-requires
put_file-size-requires c = served-fits _ _ _ _ c.in_default.ensures

pub returns : goal.returns
returns c = written_back (written _ _ _ c.of_numbers-bad.result c.of_numbers-bad.ensures c.in_default.ensures c.put_file-size.ensures)
