-- `put_rows` meets its contract. What was put, and the rows from the i-th on, are all of them. Assumes nothing.
use native.Mathlib.Omega.{arith}
use Rattle.common.proofs.PutLoop.{going_start, going-length, going-within, going_end, next_fits, going-sum, going_next}
use Rattle.row.specs.Rows.{unused_row}
use Rattle.ledger_numbers.proofs.Storing.{row_fits, at-within, row_next, rows_end}
use Rattle.ledger_numbers.proofs.packing.put_rows.Goals as goal

pub loop-row-init : goal.loop-row-init
loop-row-init c = going_start _ _

pub slice_bounds-put_row-count : goal.slice_bounds-put_row-count
slice_bounds-put_row-count c = going-within c.loop-row.invariant c.requires

pub offset_bounds-out-at : goal.offset_bounds-out-at
offset_bounds-out-at c =
    omega (arith, at-within c.loop-row.invariant, c.requires)

pub put_row-at-requires : goal.put_row-at-requires
put_row-at-requires c =
    row_fits _ (next_fits c.loop-row.invariant c.requires (row_next c.args.rows.now c.loop-row.row-index unused_row (omega arith)))

pub overflow_add-at : goal.overflow_add-at
overflow_add-at c =
    omega (arith, going-sum c.loop-row.invariant c.requires (row_next c.args.rows.now c.loop-row.row-index _ (omega arith)) c.put_row-at.ensures)

pub loop-row-preserved : goal.loop-row-preserved
loop-row-preserved c =
    going_next c.loop-row.invariant c.requires (row_next c.args.rows.now c.loop-row.row-index _ (omega arith)) c.put_row-at.ensures

pub shape_of-out : goal.shape_of-out
shape_of-out c = going-length c.loop-row.invariant c.requires

pub returns : goal.returns
returns c =
    going_end c.loop-row.invariant c.requires (rows_end c.args.rows.now c.loop-row.row-index (omega arith))
