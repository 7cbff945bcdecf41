-- `control` meets its contract. Assumes nothing.
use Rattle.replay.proofs.Meaning.{control-else, control-over, control-filled}
use Rattle.replay.proofs.events.control.Goals as goal

pub returns-in_default : goal.returns-in_default
returns-in_default c =
    control-else _ c.in_default.field-0 c.in_default.ensures (rw c.in_default.is at c.malformed.ensures)

pub returns-then-used-value : goal.returns-then-used-value
returns-then-used-value c = control-over _ c.in-Ok.m c.in-Ok.ensures c.if-used-value.true

pub returns : goal.returns
returns c = control-filled _ c.in-Ok.m c.in-Ok.ensures c.if-used-value.false
