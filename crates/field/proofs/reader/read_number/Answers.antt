-- `read_number` meets its contract: an integer ends where its bytes do. Assumes nothing.
use Rattle.common.proofs.Exits.{handed}
use Rattle.field.proofs.Answers.{read_fits, number-field-cut, number-field}
use Rattle.field.proofs.reader.read_number.Goals as goal

pub returns-in_err-n : goal.returns-in_err-n
returns-in_err-n c = rw (handed c.from_residual.ensures.1) (number-field-cut _ _ c.in_err-n.ensures)

pub overflow_add-result : goal.overflow_add-result
overflow_add-result c = search (read_fits, c.in_ok-n.ensures)

pub returns : goal.returns
returns c = number-field _ _ c.in_ok-n.ensures
