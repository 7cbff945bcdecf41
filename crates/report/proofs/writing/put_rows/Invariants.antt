use lib.ListN.{drop}
use Rattle.common.proofs.PutLoop.{Going}
use Rattle.report.specs.Report.{rows_text}
use Rattle.report.proofs.writing.put_rows.Given as goal

abbrev pub invariant-loop-row : goal.invariant-loop-row
invariant-loop-row l = Going (rows_text l.rows) l.initial.out l.out l.at (rows_text (drop l.row-index l.rows))
