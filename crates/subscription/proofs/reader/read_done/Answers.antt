-- `read_done` meets its contract. Assumes nothing.
use Rattle.common.proofs.Exits.{handed}
use Rattle.layout.proofs.Family.{typed_no, typed-whole}
use Rattle.layout.proofs.Steps.{stopping, going}
use Rattle.types.specs.Subscriptions.{subscribe_done}
use Rattle.subscription.proofs.reader.read_done.Goals as goal

pub returns-in_err-id : goal.returns-in_err-id
unfolding subscribe_done
returns-in_err-id c = rw (handed c.from_residual.ensures.1) (typed_no _ (search (stopping, c.in_err-id.ensures) depth 20))

pub returns-in_err-status : goal.returns-in_err-status
unfolding subscribe_done
returns-in_err-status c = rw (handed c.from_residual-in_err-status.ensures.1) (typed_no _ (search (stopping, c.in_ok-id.ensures, c.in_err-status.ensures) depth 20))

pub returns-in_err-streams : goal.returns-in_err-streams
unfolding subscribe_done
returns-in_err-streams c = rw (handed c.from_residual-in_err-streams.ensures.1) (typed_no _ (search (stopping, c.in_ok-id.ensures, c.in_ok-status.ensures, c.in_err-streams.ensures) depth 20))

pub returns-in_err-reason : goal.returns-in_err-reason
unfolding subscribe_done
returns-in_err-reason c = rw (handed c.from_residual-in_err-reason.ensures.1) (typed_no _ (search (stopping, c.in_ok-id.ensures, c.in_ok-status.ensures, c.in_ok-streams.ensures, c.in_err-reason.ensures) depth 20))

pub returns : goal.returns
unfolding subscribe_done
returns c = typed-whole _ (search (going, c.in_ok-id.ensures, c.in_ok-status.ensures, c.in_ok-streams.ensures, c.in_ok-reason.ensures) depth 20)
