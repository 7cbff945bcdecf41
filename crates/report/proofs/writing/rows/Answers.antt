-- `rows` meets its contract. Assumes nothing.
use Rattle.report.proofs.RowLines.{held_rows}
use Rattle.report.proofs.writing.rows.Goals as goal

pub returns-clause-value : goal.returns-clause-value
returns-clause-value c = rw c.min.ensures (held_rows c.args.l.now)
