-- `tell_number` meets its contract. Assumes nothing.
use Rattle.field.proofs.TwoReads.{number-there, number-missing}
use Rattle.parts.specs.Telling.{tell_number}
use Rattle.parts.proofs.Cursor.tell_number.Goals as goal

pub returns-in-Ok : goal.returns-in-Ok
unfolding tell_number
returns-in-Ok c = rw (number-there _ _ c.in-Ok.ensures) c.told.ensures

pub returns-in-Err : goal.returns-in-Err
unfolding tell_number
returns-in-Err c = rw (number-missing _ _ c.in-Err.ensures) c.cut.ensures
