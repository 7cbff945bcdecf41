-- `tell` meets its contract. Assumes nothing.
use mathlib.Core.Path.{◌∙◌}
use native.Mathlib.Omega.{arith}
use Rattle.replay.proofs.FieldSteps.{stands}
use Rattle.explanation_traces.proofs.FieldsTaken.{none-taken, one-taken}
use Rattle.explanation_traces.proofs.traces.tell.Goals as goal

pub returns-in_err-f : goal.returns-in_err-f
returns-in_err-f c = c.from_residual.ensures ∙ none-taken _ _ _ c.field_at.ensures c.in_err-f.was

pub slice_bounds-event_of-count : goal.slice_bounds-event_of-count
slice_bounds-event_of-count c = (stands _ _ c.field_at.ensures c.in_ok-f.was).ordered

pub slice_bounds-event_of-start : goal.slice_bounds-event_of-start
slice_bounds-event_of-start c = (stands _ _ c.field_at.ensures c.in_ok-f.was).ordered

pub slice_bounds-event_of-end : goal.slice_bounds-event_of-end
slice_bounds-event_of-end c = (stands _ _ c.field_at.ensures c.in_ok-f.was).within

pub overflow_sub-f : goal.overflow_sub-f
overflow_sub-f c = let w = stands _ _ c.field_at.ensures c.in_ok-f.was in omega (arith, w.ends)

pub slice_bounds-explain-count : goal.slice_bounds-explain-count
slice_bounds-explain-count c = let w = stands _ _ c.field_at.ensures c.in_ok-f.was in omega (arith, w.ends)

pub slice_bounds-explain-start : goal.slice_bounds-explain-start
slice_bounds-explain-start c = let w = stands _ _ c.field_at.ensures c.in_ok-f.was in omega (arith, w.ends)

pub slice_bounds-explain-end : goal.slice_bounds-explain-end
slice_bounds-explain-end c = (stands _ _ c.field_at.ensures c.in_ok-f.was).within

pub returns : goal.returns
returns c =
    one-taken _ _ _ c.field_at.ensures _ c.in_ok-f.was c.event_of.ensures c.step-stepped.ensures c.explain.ensures
