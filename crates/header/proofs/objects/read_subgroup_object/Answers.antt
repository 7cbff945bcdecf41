-- `read_subgroup_object` meets its contract. Assumes nothing.
use Rattle.common.proofs.Exits.{handed}
use Rattle.layout.proofs.Steps.{there, then, stopping}
use Rattle.header.specs.Layouts.{subgroup_object}
use Rattle.header.specs.Reading.{subgroup_object_of}
use Rattle.header.proofs.Headed.{cut_short}
use Rattle.header.proofs.ObjectHeaders.{payload-stops, payload-ends}
use Rattle.header.proofs.objects.read_subgroup_object.Goals as goal

pub returns-in_err-object : goal.returns-in_err-object
unfolding subgroup_object_of subgroup_object
returns-in_err-object c =
    rw (handed c.from_residual.ensures.1) (cut_short 1 _ (search (stopping, c.in_err-object.ensures) depth 20))

pub returns-in_err-extensions : goal.returns-in_err-extensions
unfolding subgroup_object_of subgroup_object
returns-in_err-extensions c =
    rw (handed c.from_residual-in_err-extensions.ensures.1) (cut_short 1 _ (search (stopping, c.in_ok-object.ensures, c.in_err-extensions.ensures) depth 20))

pub returns-in_err-payload : goal.returns-in_err-payload
unfolding subgroup_object_of subgroup_object
returns-in_err-payload c =
    rw (handed c.from_residual-in_err-payload.ensures.1)
    (payload-stops (then c.in_ok-object.ensures (then c.in_ok-extensions.ensures there)) _ c.in_err-payload.ensures)

pub returns : goal.returns
unfolding subgroup_object_of subgroup_object
returns c =
    payload-ends (then c.in_ok-object.ensures (then c.in_ok-extensions.ensures there)) _ c.in_ok-payload.ensures
