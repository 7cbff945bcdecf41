-- `put` meets its contract: the line is measured first, and only then put. Assumes nothing.
use native.Mathlib.Omega.{arith}
use Rattle.text.proofs.Outcomes.{line-short, line-done}
use Rattle.text.proofs.lines.put.Goals as goal

pub returns-then-out-measure : goal.returns-then-out-measure
returns-then-out-measure c = line-short _ c.args.out.now (omega (arith, c.measure.ensures))

pub returns : goal.returns
returns c =
    line-done _ c.args.out.now (omega (arith, c.measure.ensures)) (rw c.as_slice.ensures.value at c.put_items.ensures)
