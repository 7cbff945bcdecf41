-- `put_part_line` meets its contract. Assumes nothing.
use Rattle.columns.proofs.Poured.{poured-three}
use Rattle.explanation_lines.specs.Lines.{part_line}
use Rattle.explanation_lines.proofs.lines.put_part_line.Goals as goal

pub returns : goal.returns
unfolding part_line
returns c = search poured-three
