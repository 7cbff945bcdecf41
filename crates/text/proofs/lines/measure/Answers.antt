-- `measure` meets its contract. What was counted, and the items that are left, are the line. Assumes nothing.
use native.Mathlib.Omega.{arith}
use Rattle.text.proofs.Bounds.{item-few, longest_bound}
use Rattle.text.proofs.Counted.{counted-sum, counted_next, counted-end}
use Rattle.text.proofs.ItemsInLine.{item-next, line-end, ended-size}
use Rattle.text.proofs.lines.measure.Goals as goal

pub overflow_add-sum : goal.overflow_add-sum
overflow_add-sum c = omega (arith, item-few _ c.size.ensures)

pub overflow_add-sum-in-loop-item : goal.overflow_add-sum-in-loop-item
overflow_add-sum-in-loop-item c =
    let bound = longest_bound _ c.as_slice-item-items.ensures.fits in
    omega (arith, bound, counted-sum c.loop-item.invariant (item-next _ _ _ c.loop-item-test.true) (ended-size _ _ c.size.ensures))

pub loop-item-preserved : goal.loop-item-preserved
loop-item-preserved c =
    counted_next c.loop-item.invariant (item-next _ _ _ c.loop-item-test.true) (ended-size _ _ c.size.ensures)

pub returns : goal.returns
returns c =
    rw (← c.as_slice-item-items.ensures.value) (counted-end c.loop-item.invariant (line-end _ _ c.loop-item-test.false))
