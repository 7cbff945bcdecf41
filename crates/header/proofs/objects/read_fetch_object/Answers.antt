-- `read_fetch_object` meets its contract. Assumes nothing.
use Rattle.common.proofs.Exits.{handed}
use Rattle.layout.proofs.Steps.{there, then, stopping}
use Rattle.header.specs.Layouts.{fetch_object}
use Rattle.header.specs.Reading.{fetch_object_of}
use Rattle.header.proofs.Headed.{cut_short}
use Rattle.header.proofs.ObjectHeaders.{payload-stops, payload-ends}
use Rattle.header.proofs.objects.read_fetch_object.Goals as goal

pub returns-in_err-group : goal.returns-in_err-group
unfolding fetch_object_of fetch_object
returns-in_err-group c =
    rw (handed c.from_residual.ensures.1) (cut_short 1 _ (search (stopping, c.in_err-group.ensures) depth 20))

pub returns-in_err-subgroup : goal.returns-in_err-subgroup
unfolding fetch_object_of fetch_object
returns-in_err-subgroup c =
    rw (handed c.from_residual-in_err-subgroup.ensures.1) (cut_short 1 _ (search (stopping, c.in_ok-group.ensures, c.in_err-subgroup.ensures) depth 20))

pub returns-in_err-object : goal.returns-in_err-object
unfolding fetch_object_of fetch_object
returns-in_err-object c =
    rw (handed c.from_residual-in_err-object.ensures.1) (cut_short 1 _ (search (stopping, c.in_ok-group.ensures, c.in_ok-subgroup.ensures, c.in_err-object.ensures) depth 20))

pub returns-in_err-priority : goal.returns-in_err-priority
unfolding fetch_object_of fetch_object
returns-in_err-priority c =
    rw (handed c.from_residual-in_err-priority.ensures.1) (cut_short 1 _ (search (stopping, c.in_ok-group.ensures, c.in_ok-subgroup.ensures, c.in_ok-object.ensures, c.in_err-priority.ensures) depth 20))

pub returns-in_err-extensions : goal.returns-in_err-extensions
unfolding fetch_object_of fetch_object
returns-in_err-extensions c =
    rw (handed c.from_residual-in_err-extensions.ensures.1) (cut_short 1 _ (search (stopping, c.in_ok-group.ensures, c.in_ok-subgroup.ensures, c.in_ok-object.ensures, c.in_ok-priority.ensures, c.in_err-extensions.ensures) depth 20))

pub returns-in_err-payload : goal.returns-in_err-payload
unfolding fetch_object_of fetch_object
returns-in_err-payload c =
    rw (handed c.from_residual-in_err-payload.ensures.1)
    (payload-stops (then c.in_ok-group.ensures (then c.in_ok-subgroup.ensures (then c.in_ok-object.ensures (then c.in_ok-priority.ensures (then c.in_ok-extensions.ensures there))))) _ c.in_err-payload.ensures)

pub returns : goal.returns
unfolding fetch_object_of fetch_object
returns c =
    payload-ends (then c.in_ok-group.ensures (then c.in_ok-subgroup.ensures (then c.in_ok-object.ensures (then c.in_ok-priority.ensures (then c.in_ok-extensions.ensures there))))) _ c.in_ok-payload.ensures
