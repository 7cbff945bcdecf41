-- `put_numbers` meets its contract: the numbers that the loop hasn't met are left. Assumes nothing.
use Rattle.explanation_lines.proofs.NumbersPoured.{loop-cut, loop-poured, loop-left}
use Rattle.explanation_lines.proofs.numbers.put_numbers.Goals as goal

pub returns-in_default : goal.returns-in_default
returns-in_default c =
    let l = c.loop-name in
    loop-cut _ l.name-index _ _ _ _ l.invariant _ c.loop-name-test.true c.in_default.ensures c.put_cut.ensures

pub loop-name-preserved : goal.loop-name-preserved
loop-name-preserved c =
    let l = c.loop-name in
    loop-poured _ l.name-index _ _ _ _ l.invariant _ c.loop-name-test.true c.in-Ok.ensures c.put_number_line-line.ensures

pub returns : goal.returns
returns c =
    let l = c.loop-name in
    loop-left _ l.name-index _ _ _ _ l.invariant c.loop-name-test.false c.put_left_line.ensures
