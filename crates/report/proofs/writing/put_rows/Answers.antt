-- `put_rows` meets its contract. What was put, and the rows that the loop hasn't met, are all of them. Assumes nothing.
use Rattle.common.proofs.PutLoop.{going_end, next_fits, going_next}
use Rattle.report.proofs.RowLines.{row_next, rows_end}
use Rattle.report.proofs.writing.put_rows.Goals as goal

pub put_line-at-requires : goal.put_line-at-requires
put_line-at-requires c =
    next_fits c.loop-row.invariant c.requires (row_next _ _ _ c.loop-row-test.true c.row_line.ensures)

pub loop-row-preserved : goal.loop-row-preserved
loop-row-preserved c =
    going_next c.loop-row.invariant c.requires (row_next _ _ _ c.loop-row-test.true c.row_line.ensures) c.put_line-at.ensures

pub returns : goal.returns
returns c = going_end c.loop-row.invariant c.requires (rows_end _ _ c.loop-row-test.false)
