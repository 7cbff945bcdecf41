-- `read_update` meets its contract. Assumes nothing.
use Rattle.common.proofs.Exits.{handed}
use Rattle.layout.specs.Layout.{parameters}
use Rattle.layout.proofs.Family.{typed_no, typed-whole}
use Rattle.layout.proofs.Steps.{stopping, going}
use Rattle.types.specs.Subscriptions.{subscribe_update}
use Rattle.subscription.proofs.reader.read_update.Goals as goal

pub returns-in_err-id : goal.returns-in_err-id
unfolding subscribe_update parameters
returns-in_err-id c = rw (handed c.from_residual.ensures.1) (typed_no _ (search (stopping, c.in_err-id.ensures) depth 20))

pub returns-in_err-start : goal.returns-in_err-start
unfolding subscribe_update parameters
returns-in_err-start c = rw (handed c.from_residual-in_err-start.ensures.1) (typed_no _ (search (stopping, c.in_ok-id.ensures, c.in_err-start.ensures) depth 20))

pub returns-in_err-end_group : goal.returns-in_err-end_group
unfolding subscribe_update parameters
returns-in_err-end_group c = rw (handed c.from_residual-in_err-end_group.ensures.1) (typed_no _ (search (stopping, c.in_ok-id.ensures, c.in_ok-start.ensures, c.in_err-end_group.ensures) depth 20))

pub returns-in_err-priority : goal.returns-in_err-priority
unfolding subscribe_update parameters
returns-in_err-priority c = rw (handed c.from_residual-in_err-priority.ensures.1) (typed_no _ (search (stopping, c.in_ok-id.ensures, c.in_ok-start.ensures, c.in_ok-end_group.ensures, c.in_err-priority.ensures) depth 20))

pub returns-in_err-parameters : goal.returns-in_err-parameters
unfolding subscribe_update parameters
returns-in_err-parameters c = rw (handed c.from_residual-in_err-parameters.ensures.1) (typed_no _ (search (stopping, c.in_ok-id.ensures, c.in_ok-start.ensures, c.in_ok-end_group.ensures, c.in_ok-priority.ensures, c.in_err-parameters.ensures) depth 20))

pub returns : goal.returns
unfolding subscribe_update parameters
returns c = typed-whole _ (search (going, c.in_ok-id.ensures, c.in_ok-start.ensures, c.in_ok-end_group.ensures, c.in_ok-priority.ensures, c.in_ok-parameters.ensures) depth 20)
