-- `read_ok` meets its contract. Assumes nothing.
use Rattle.common.proofs.Exits.{handed}
use Rattle.layout.specs.Layout.{parameters}
use Rattle.layout.proofs.Family.{typed_no, typed-whole}
use Rattle.layout.proofs.Steps.{To, Stops, ends, stopping, going}
use Rattle.types.specs.Subscriptions.{subscribe_ok}
use Rattle.subscription.proofs.reader.read_ok.Goals as goal

pub returns-in_err-id : goal.returns-in_err-id
unfolding subscribe_ok parameters
returns-in_err-id c = rw (handed c.from_residual.ensures.1) (typed_no _ (search (stopping, c.in_err-id.ensures) depth 20))

pub returns-in_err-expires : goal.returns-in_err-expires
unfolding subscribe_ok parameters
returns-in_err-expires c = rw (handed c.from_residual-in_err-expires.ensures.1) (typed_no _ (search (stopping, c.in_ok-id.ensures, c.in_err-expires.ensures) depth 20))

pub returns-in_err-order : goal.returns-in_err-order
unfolding subscribe_ok parameters
returns-in_err-order c = rw (handed c.from_residual-in_err-order.ensures.1) (typed_no _ (search (stopping, c.in_ok-id.ensures, c.in_ok-expires.ensures, c.in_err-order.ensures) depth 20))

pub returns-then-not-is_givable : goal.returns-then-not-is_givable
unfolding subscribe_ok parameters
returns-then-not-is_givable c = typed_no _ (search (stopping, c.in_ok-id.ensures, c.in_ok-expires.ensures, c.in_ok-order.ensures) depth 20)

pub returns-in_err-largest : goal.returns-in_err-largest
unfolding subscribe_ok parameters
returns-in_err-largest c = rw (handed c.from_residual-in_err-largest.ensures.1) (typed_no _ (search (stopping, ends, c.in_ok-id.ensures, c.in_ok-expires.ensures, c.in_ok-order.ensures, c.in_err-largest.ensures) depth 20))

pub returns-in_err-parameters : goal.returns-in_err-parameters
unfolding subscribe_ok parameters
returns-in_err-parameters c = rw (handed c.from_residual-in_err-parameters.ensures.1) (typed_no _ (search (stopping, Stops.past, c.in_ok-id.ensures, c.in_ok-expires.ensures, c.in_ok-order.ensures, c.in_ok-largest.ensures, c.in_err-parameters.ensures) depth 20))

pub returns : goal.returns
unfolding subscribe_ok parameters
returns c = typed-whole _ (search (going, To.past, c.in_ok-id.ensures, c.in_ok-expires.ensures, c.in_ok-order.ensures, c.in_ok-largest.ensures, c.in_ok-parameters.ensures) depth 20)
