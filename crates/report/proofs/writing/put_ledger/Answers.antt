-- `put_ledger` meets its contract. Assumes nothing.
use native.Mathlib.Omega.{arith}
use Rattle.report.proofs.LinesJoined.{session-fits, session-ends, columns-fit, front-sum, front_ends, rows_fit, all-sum, all-put}
use Rattle.report.proofs.writing.put_ledger.Goals as goal

pub put_line-front-requires : goal.put_line-front-requires
put_line-front-requires c = session-fits _ c.args.out.now c.requires c.session_line.ensures

pub slice_bounds-put_line-start : goal.slice_bounds-put_line-start
slice_bounds-put_line-start c = session-ends _ _ c.requires c.session_line.ensures c.put_line-front.ensures

pub slice_bounds-put_line-count : goal.slice_bounds-put_line-count
slice_bounds-put_line-count c = session-ends _ _ c.requires c.session_line.ensures c.put_line-front.ensures

pub put_line-requires : goal.put_line-requires
put_line-requires c = columns-fit _ _ c.requires c.session_line.ensures c.put_line-front.ensures c.columns_line.ensures

pub overflow_add-at : goal.overflow_add-at
overflow_add-at c = omega (arith, front-sum _ _ c.requires c.session_line.ensures c.put_line-front.ensures c.columns_line.ensures c.put_line.ensures)

pub slice_bounds-put_rows-start : goal.slice_bounds-put_rows-start
slice_bounds-put_rows-start c = front_ends _ _ c.requires c.session_line.ensures c.put_line-front.ensures c.columns_line.ensures c.put_line.ensures

pub slice_bounds-put_rows-count : goal.slice_bounds-put_rows-count
slice_bounds-put_rows-count c = front_ends _ _ c.requires c.session_line.ensures c.put_line-front.ensures c.columns_line.ensures c.put_line.ensures

pub put_rows-requires : goal.put_rows-requires
put_rows-requires c = rw c.rows.ensures.value (rows_fit _ _ c.requires c.session_line.ensures c.put_line-front.ensures c.columns_line.ensures c.put_line.ensures)

pub overflow_add-result : goal.overflow_add-result
overflow_add-result c = omega (arith, all-sum _ _ c.requires c.session_line.ensures c.put_line-front.ensures c.columns_line.ensures c.put_line.ensures (rw c.rows.ensures.value at c.put_rows.ensures))

pub returns : goal.returns
returns c = all-put _ _ c.requires c.session_line.ensures c.put_line-front.ensures c.columns_line.ensures c.put_line.ensures (rw c.rows.ensures.value at c.put_rows.ensures)
