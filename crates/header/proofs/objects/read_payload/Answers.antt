-- `read_payload` meets its contract. Assumes nothing.
use Rattle.common.proofs.Exits.{handed}
use Rattle.layout.proofs.Steps.{is-no, is_whole, number-as, stopping, going}
use Rattle.header.specs.Layouts.{status, payload}
use Rattle.header.proofs.objects.read_payload.Goals as goal

pub returns-in_err-length : goal.returns-in_err-length
unfolding payload status
returns-in_err-length c =
    rw (handed c.from_residual.ensures.1) (is-no (search (stopping, c.in_err-length.ensures) depth 20))

pub returns-then-length-ne0 : goal.returns-then-length-ne0
unfolding payload status
returns-then-length-ne0 c = is_whole (search (going, c.in_ok-length.ensures) depth 20)

pub returns-in_err-status : goal.returns-in_err-status
unfolding payload status
returns-in_err-status c =
    rw (handed c.from_residual-in_err-status.ensures.1) (is-no (search (stopping, c.in_ok-length.ensures, c.in_err-status.ensures) depth 20))

pub returns-then-not-is_status : goal.returns-then-not-is_status
unfolding payload status
returns-then-not-is_status c = is-no (search (stopping, c.in_ok-length.ensures, c.in_ok-status.ensures) depth 20)

pub returns : goal.returns
unfolding payload status
returns c = is_whole (search (number-as, going, c.in_ok-length.ensures, c.in_ok-status.ensures) depth 20)
