-- `put_cut` meets its contract. Assumes nothing.
use Rattle.columns.proofs.Poured.{poured-both}
use Rattle.explanation_lines.specs.Lines.{cut_lines}
use Rattle.explanation_lines.proofs.numbers.put_cut.Goals as goal

pub returns : goal.returns
unfolding cut_lines
returns c = search (poured-both, rw c.number.ensures at c.put_mark.ensures)
