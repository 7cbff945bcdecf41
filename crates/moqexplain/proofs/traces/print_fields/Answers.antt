-- `print_fields` meets its contract. Assumes nothing.
use Rattle.std.proofs.Common.{arith}
use Rattle.moqexplain.proofs.Within.{taken-goes}
use Rattle.moqexplain.proofs.traces.print_fields.Goals as goal

pub slice_bounds-print-count : goal.slice_bounds-print-count
slice_bounds-print-count g c = omega (arith, (taken-goes _ _ _ c.tell.ensures c.in-Some.is).0)

pub slice_bounds-print-start : goal.slice_bounds-print-start
slice_bounds-print-start g c = omega (arith, (taken-goes _ _ _ c.tell.ensures c.in-Some.is).0)

pub slice_bounds-print-end : goal.slice_bounds-print-end
slice_bounds-print-end g c = (taken-goes _ _ _ c.tell.ensures c.in-Some.is).1

pub loop-taken-smaller : goal.loop-taken-smaller
loop-taken-smaller g c =
    let goes = taken-goes _ _ _ c.tell.ensures c.in-Some.is in
    omega (arith, goes.0, goes.1)

pub loop-taken-preserved : goal.loop-taken-preserved
loop-taken-preserved g c = (taken-goes _ _ _ c.tell.ensures c.in-Some.is).1
