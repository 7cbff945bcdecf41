-- `measure_ledger` meets its contract: the three sums are the report's length, which is small. Assumes nothing.
use native.Mathlib.Omega.{arith}
use Rattle.report.proofs.RowLines.{ledger-counted, front-bound, few-rows-bound}
use Rattle.report.proofs.writing.measure_ledger.Goals as goal

pub returns : goal.returns
returns c =
    ledger-counted c.args.l.now c.session_line.ensures c.columns_line.ensures c.measure-front.ensures c.measure.ensures (rw c.rows.ensures.value at c.measure_rows.ensures)

pub overflow_add-result-2 : goal.overflow_add-result-2
overflow_add-result-2 c =
    let few = rw c.rows.ensures.value at c.rows.ensures.few in
    omega (arith, returns c, few-rows-bound c.args.l.now few)

pub overflow_add-result : goal.overflow_add-result
overflow_add-result c =
    omega (arith, front-bound c.args.l.now c.session_line.ensures c.columns_line.ensures c.measure-front.ensures c.measure.ensures)
