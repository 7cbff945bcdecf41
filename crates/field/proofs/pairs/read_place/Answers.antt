-- `read_place` meets its contract: two integers, one after the other. Assumes nothing.
use Rattle.common.proofs.Exits.{handed}
use Rattle.field.proofs.TwoReads.{place-cut, place-half, place-whole}
use Rattle.field.proofs.pairs.read_place.Goals as goal

pub returns-in_err-group : goal.returns-in_err-group
returns-in_err-group c = rw (handed c.from_residual.ensures.1) (place-cut _ _ c.in_err-group.ensures)

pub returns-in_err-object : goal.returns-in_err-object
returns-in_err-object c = rw (handed c.from_residual-in_err-object.ensures.1) (place-half _ _ c.in_ok-group.ensures c.in_err-object.ensures)

pub returns : goal.returns
returns c = place-whole _ _ c.in_ok-group.ensures c.in_ok-object.ensures
