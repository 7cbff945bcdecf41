-- `put_faulty_line` meets its contract. Assumes nothing.
use Rattle.columns.proofs.Poured.{poured-three}
use Rattle.explanation_lines.specs.Lines.{faulty_line}
use Rattle.explanation_lines.proofs.lines.put_faulty_line.Goals as goal

pub returns : goal.returns
unfolding faulty_line
returns c = rw (← c.saturating_sub.ensures) (search poured-three)
