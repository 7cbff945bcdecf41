-- `measure_rows` meets its contract. What was counted, and the rows that the loop hasn't met, are all of them. Assumes nothing.
use native.Mathlib.Omega.{arith}
use Rattle.text.proofs.Counted.{counted-sum, counted_next, counted-end}
use Rattle.report.proofs.RowLines.{row_next, rows_end, few-bound}
use Rattle.report.proofs.writing.measure_rows.Goals as goal

pub overflow_add-sum : goal.overflow_add-sum
overflow_add-sum c =
    let next = row_next _ _ _ c.loop-row-test.true c.row_line.ensures in
    omega (arith, few-bound _ c.requires, counted-sum c.loop-row.invariant next c.measure-sum.ensures)

pub loop-row-preserved : goal.loop-row-preserved
loop-row-preserved c =
    counted_next c.loop-row.invariant (row_next _ _ _ c.loop-row-test.true c.row_line.ensures) c.measure-sum.ensures

pub returns : goal.returns
returns c = counted-end c.loop-row.invariant (rows_end _ _ c.loop-row-test.false)
