-- `read_list` meets its contract: what was counted, as a field. Assumes nothing.
use Rattle.common.proofs.Exits.{handed}
use Rattle.field.proofs.Lists.{field-list-no, field-list}
use Rattle.field.proofs.reader.read_list.Goals as goal

pub returns-in_err-entries : goal.returns-in_err-entries
returns-in_err-entries c = rw (handed c.from_residual.ensures.1) (field-list-no _ _ _ c.in_err-entries.ensures)

pub returns : goal.returns
returns c = field-list _ _ _ c.in_ok-entries.ensures
