-- `arrived` meets its contract. Assumes nothing.
use Rattle.replay.proofs.Meaning.{arrival-cut, arrival-half, arrival-over, arrival-filled}
use Rattle.replay.proofs.events.arrived.Goals as goal

pub returns-in_default : goal.returns-in_default
returns-in_default c = arrival-cut _ c.in_default.ensures

pub returns-in_default-read_place : goal.returns-in_default-read_place
returns-in_default-read_place c = arrival-half _ c.in-Ok.ensures c.in_default-read_place.ensures

pub returns-then-end-value : goal.returns-then-end-value
returns-then-end-value c = arrival-over _ c.in-Ok.ensures c.in-Ok-read_place.ensures c.if-end-value.true

pub returns : goal.returns
returns c = arrival-filled _ c.in-Ok.ensures c.in-Ok-read_place.ensures c.if-end-value.false
