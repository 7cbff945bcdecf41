use lib.ListN.{drop}
use Rattle.text.proofs.Counted.{Counted}
use Rattle.report.specs.Report.{rows_text}
use Rattle.report.proofs.writing.measure_rows.Given as goal

abbrev pub invariant-loop-row : goal.invariant-loop-row
invariant-loop-row l = Counted (rows_text l.rows) l.sum (rows_text (drop l.row-index l.rows))
