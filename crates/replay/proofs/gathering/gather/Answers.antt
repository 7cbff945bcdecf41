-- `gather` meets its contract: it holds of the arrivals so far. Assumes nothing.
use Rattle.std.proofs.Common.{ap, arith, length-set, rules}
use Rattle.replay.specs.Events.{as_event}
use Rattle.replay.proofs.FieldSteps.{stands, gathers-none, gathers-more}
use Rattle.replay.proofs.gathering.gather.Goals as goal

pub loop-count-init : goal.loop-count-init
loop-count-init c = gathers-none _ _ _ c.requires

pub arrival_in-requires : goal.arrival_in-requires
arrival_in-requires c =
    let w = stands _ _ c.field_at.ensures c.in-Some.is in
    (w.ordered, w.within)

pub bounds-run-count-in-loop-count : goal.bounds-run-count-in-loop-count
bounds-run-count-in-loop-count c = simp length-set (omega (arith, c.loop-count.invariant.same-room))

pub bounds-run-count-in-loop-count-2 : goal.bounds-run-count-in-loop-count-2
bounds-run-count-in-loop-count-2 c = simp length-set (omega (arith, c.loop-count.invariant.same-room))

pub loop-count-preserved : goal.loop-count-preserved
loop-count-preserved c =
    gathers-more c.loop-count.invariant c.field_at.ensures c.in-Some.is c.arrival_in.ensures (ap as_event c.in-Some-arrival_in.is) (search rules)
