-- `tell` meets its contract. Assumes nothing.
use native.Mathlib.Omega.{arith}
use Rattle.replay.proofs.FieldSteps.{stands}
use Rattle.answers.proofs.FieldTaken.{none-taken, one-taken}
use Rattle.answers.proofs.lines.tell.Goals as goal

pub returns-in_err-f : goal.returns-in_err-f
returns-in_err-f c = rw c.from_residual.ensures (none-taken c.args.p _ _ c.field_at.ensures c.in_err-f.was)

pub slice_bounds-event_of-count : goal.slice_bounds-event_of-count
slice_bounds-event_of-count c = (stands _ _ c.field_at.ensures c.in_ok-f.was).ordered

pub slice_bounds-event_of-start : goal.slice_bounds-event_of-start
slice_bounds-event_of-start c = (stands _ _ c.field_at.ensures c.in_ok-f.was).ordered

pub slice_bounds-event_of-end : goal.slice_bounds-event_of-end
slice_bounds-event_of-end c = (stands _ _ c.field_at.ensures c.in_ok-f.was).within

pub overflow_sub-f : goal.overflow_sub-f
overflow_sub-f c = let w = stands _ _ c.field_at.ensures c.in_ok-f.was in omega (arith, w.ends)

pub returns : goal.returns
returns c =
    one-taken _ _ _ c.field_at.ensures c.in_ok-f.was _ c.event_of.ensures c.step-stepped.ensures c.line.ensures
