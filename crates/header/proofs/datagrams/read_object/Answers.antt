-- `read_object` meets its contract: field by field. Assumes nothing.
use Rattle.common.proofs.Exits.{handed}
use Rattle.layout.proofs.Steps.{is-no, is_whole, stopping, going}
use Rattle.header.specs.Layouts.{object_datagram}
use Rattle.header.proofs.datagrams.read_object.Goals as goal

pub returns-in_err-alias : goal.returns-in_err-alias
unfolding object_datagram
returns-in_err-alias c =
    rw (handed c.from_residual.ensures.1) (is-no (search (stopping, c.in_err-alias.ensures) depth 20))

pub returns-in_err-place : goal.returns-in_err-place
unfolding object_datagram
returns-in_err-place c =
    rw (handed c.from_residual-in_err-place.ensures.1) (is-no (search (stopping, c.in_ok-alias.ensures, c.in_err-place.ensures) depth 20))

pub returns-in_err-priority : goal.returns-in_err-priority
unfolding object_datagram
returns-in_err-priority c =
    rw (handed c.from_residual-in_err-priority.ensures.1) (is-no (search (stopping, c.in_ok-alias.ensures, c.in_ok-place.ensures, c.in_err-priority.ensures) depth 20))

pub returns-in_err-extensions : goal.returns-in_err-extensions
unfolding object_datagram
returns-in_err-extensions c =
    rw (handed c.from_residual-in_err-extensions.ensures.1)
    (is-no (search (stopping, c.in_ok-alias.ensures, c.in_ok-place.ensures, c.in_ok-priority.ensures, c.in_err-extensions.ensures) depth 20))

pub returns : goal.returns
unfolding object_datagram
returns c =
    is_whole (search (going, c.in_ok-alias.ensures, c.in_ok-place.ensures, c.in_ok-priority.ensures, c.in_ok-extensions.ensures) depth 20)
