-- `started` meets its contract. Assumes nothing.
use Rattle.std.proofs.Common.{arith, get_or, ne_eqb}
use Rattle.replay.proofs.Meaning.{start-cut, start-over, start-part, start-filled}
use Rattle.replay.proofs.events.started.Goals as goal

pub returns-in_default : goal.returns-in_default
returns-in_default c = start-cut _ c.in_default.ensures

pub returns-then-end-value : goal.returns-then-end-value
returns-then-end-value c = start-over _ c.in-Ok.ensures c.if-end-value.true

pub bounds-value-0 : goal.bounds-value-0
bounds-value-0 c = start-part _ c.in-Ok.ensures

pub returns-in-0 : goal.returns-in-0
returns-in-0 c = start-filled _ c.in-Ok.ensures c.if-end-value.false (rw c.in-0.is)

pub returns-in-1 : goal.returns-in-1
returns-in-1 c = start-filled _ c.in-Ok.ensures c.if-end-value.false (rw c.in-1.is)

pub returns-in_default-value : goal.returns-in_default-value
returns-in_default-value c =
    start-filled _ c.in-Ok.ensures c.if-end-value.false
    (rw (ne_eqb (get_or c.args.value.now 0 0) 0 (λ e. omega arith), ne_eqb (get_or c.args.value.now 0 0) 1 (λ e. omega arith)))
