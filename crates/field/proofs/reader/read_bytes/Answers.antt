-- `read_bytes` meets its contract: an entry without a number, of any length. Assumes nothing.
use Rattle.field.proofs.Answers.{bytes-no, bytes_whole}
use Rattle.field.proofs.reader.read_bytes.Goals as goal

pub returns-in-Err : goal.returns-in-Err
returns-in-Err c = bytes-no _ _ c.in-Err.ensures

pub returns-in-Ok : goal.returns-in-Ok
returns-in-Ok c = bytes_whole _ _ c.in-Ok.ensures
