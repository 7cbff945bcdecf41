-- `read_status` meets its contract: what stands before the status, the status, and nothing after it. Assumes nothing.
use Rattle.common.proofs.Exits.{handed}
use Rattle.layout.proofs.Steps.{stopping, going}
use Rattle.header.specs.Layouts.{status}
use Rattle.header.proofs.StatusDatagrams.{object-cut, status-cut, status-forbidden, status-over, status-last}
use Rattle.header.proofs.datagrams.read_status.Goals as goal

pub returns-in_err-d : goal.returns-in_err-d
returns-in_err-d c = rw (handed c.from_residual.ensures.1) (object-cut _ _ c.in_err-d.ensures)

pub returns-in_err-status : goal.returns-in_err-status
unfolding status
returns-in_err-status c =
    rw (handed c.from_residual-in_err-status.ensures.1) (status-cut _ _ _ c.in_ok-d.ensures (search (stopping, c.in_err-status.ensures) depth 10))

pub returns-then-not-is_status : goal.returns-then-not-is_status
unfolding status
returns-then-not-is_status c =
    status-forbidden _ _ _ c.in_ok-d.ensures (search (stopping, c.in_ok-status.ensures) depth 10)

pub returns-then-end-s : goal.returns-then-end-s
unfolding status
returns-then-end-s c =
    status-over _ _ _ c.in_ok-d.ensures {n = c.in_ok-status.status} (search (going, c.in_ok-status.ensures) depth 10) c.if-end-s.true

pub returns : goal.returns
unfolding status
returns c =
    status-last _ _ _ c.in_ok-d.ensures (search (going, c.in_ok-status.ensures) depth 10) c.if-end-s.false
