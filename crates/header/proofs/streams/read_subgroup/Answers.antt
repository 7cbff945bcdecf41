-- `read_subgroup` meets its contract: field by field. Assumes nothing.
use Rattle.common.proofs.Exits.{handed}
use Rattle.layout.proofs.Steps.{is-no, is_whole, stopping, going}
use Rattle.header.specs.Layouts.{subgroup_header}
use Rattle.header.proofs.streams.read_subgroup.Goals as goal

pub returns-in_err-alias : goal.returns-in_err-alias
unfolding subgroup_header
returns-in_err-alias c =
    rw (handed c.from_residual.ensures.1) (is-no (search (stopping, c.in_err-alias.ensures) depth 20))

pub returns-in_err-group : goal.returns-in_err-group
unfolding subgroup_header
returns-in_err-group c =
    rw (handed c.from_residual-in_err-group.ensures.1) (is-no (search (stopping, c.in_ok-alias.ensures, c.in_err-group.ensures) depth 20))

pub returns-in_err-subgroup : goal.returns-in_err-subgroup
unfolding subgroup_header
returns-in_err-subgroup c =
    rw (handed c.from_residual-in_err-subgroup.ensures.1) (is-no (search (stopping, c.in_ok-alias.ensures, c.in_ok-group.ensures, c.in_err-subgroup.ensures) depth 20))

pub returns-in_err-priority : goal.returns-in_err-priority
unfolding subgroup_header
returns-in_err-priority c =
    rw (handed c.from_residual-in_err-priority.ensures.1)
    (is-no (search (stopping, c.in_ok-alias.ensures, c.in_ok-group.ensures, c.in_ok-subgroup.ensures, c.in_err-priority.ensures) depth 20))

pub returns : goal.returns
unfolding subgroup_header
returns c =
    is_whole (search (going, c.in_ok-alias.ensures, c.in_ok-group.ensures, c.in_ok-subgroup.ensures, c.in_ok-priority.ensures) depth 20)
