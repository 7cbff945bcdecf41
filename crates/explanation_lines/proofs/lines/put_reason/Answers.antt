-- `put_reason` meets its contract. Assumes nothing.
use Rattle.types.specs.Letters.{letters}
use Rattle.columns.proofs.Poured.{poured-three}
use Rattle.explanation_lines.specs.Lines.{fault_line}
use Rattle.explanation_lines.proofs.lines.put_reason.Goals as goal

pub returns : goal.returns
unfolding letters fault_line
returns c = rw (← c.as_str.ensures) (poured-three _ _ _ _ c.put_str-fault.ensures c.put_str-next.ensures c.put_byte.ensures)
