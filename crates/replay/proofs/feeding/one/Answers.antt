-- `one` meets its contract. Assumes nothing.
use Rattle.std.proofs.Common.{arith}
use Rattle.replay.proofs.FieldSteps.{stands, stands-none, one-turn}
use Rattle.replay.proofs.feeding.one.Goals as goal

pub returns-in_err-f : goal.returns-in_err-f
returns-in_err-f c = rw c.from_residual.ensures (stands-none _ _ c.field_at.ensures c.in_err-f.was)

pub slice_bounds-event_of-count : goal.slice_bounds-event_of-count
slice_bounds-event_of-count c = (stands _ _ c.field_at.ensures c.in_ok-f.was).ordered

pub slice_bounds-event_of-start : goal.slice_bounds-event_of-start
slice_bounds-event_of-start c = (stands _ _ c.field_at.ensures c.in_ok-f.was).ordered

pub slice_bounds-event_of-end : goal.slice_bounds-event_of-end
slice_bounds-event_of-end c = (stands _ _ c.field_at.ensures c.in_ok-f.was).within

pub overflow_sub-f : goal.overflow_sub-f
overflow_sub-f c = let w = stands _ _ c.field_at.ensures c.in_ok-f.was in omega (arith, w.ends)

pub returns : goal.returns
returns c = one-turn _ _ _ c.field_at.ensures c.in_ok-f.was _ c.event_of.ensures c.step-stepped.ensures
