-- `put_step` meets its contract. Assumes nothing.
use Rattle.columns.proofs.Poured.{poured-both}
use Rattle.explanation_lines.proofs.steps.put_step.Goals as goal

pub returns-in-Part : goal.returns-in-Part
returns-in-Part c = rw c.in-Part.is c.put_part_line.ensures

pub returns-in-Refused : goal.returns-in-Refused
returns-in-Refused c = rw c.in-Refused.is c.put_mark.ensures

pub returns-in-Faulty : goal.returns-in-Faulty
returns-in-Faulty c = rw c.in-Faulty.is (poured-both _ _ _ c.put_faulty_line-line.ensures c.put_mark-in-Faulty.ensures)

pub returns-in-Whole : goal.returns-in-Whole
returns-in-Whole c = rw c.in-Whole.is c.put_left_line.ensures
