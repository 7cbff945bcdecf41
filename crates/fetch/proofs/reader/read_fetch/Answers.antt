-- `read_fetch` meets its contract. Assumes nothing.
use Rattle.common.proofs.Exits.{handed}
use Rattle.layout.specs.Layout.{parameters}
use Rattle.layout.proofs.Family.{typed_no, typed-whole}
use Rattle.layout.proofs.Steps.{To, Stops, ends, stopping, going}
use Rattle.types.specs.Fetches.{fetch}
use Rattle.fetch.proofs.reader.read_fetch.Goals as goal

pub returns-in_err-id : goal.returns-in_err-id
unfolding fetch parameters
returns-in_err-id c = rw (handed c.from_residual.ensures.1) (typed_no _ (search (stopping, c.in_err-id.ensures) depth 20))

pub returns-in_err-priority : goal.returns-in_err-priority
unfolding fetch parameters
returns-in_err-priority c = rw (handed c.from_residual-in_err-priority.ensures.1) (typed_no _ (search (stopping, c.in_ok-id.ensures, c.in_err-priority.ensures) depth 20))

pub returns-in_err-order : goal.returns-in_err-order
unfolding fetch parameters
returns-in_err-order c = rw (handed c.from_residual-in_err-order.ensures.1) (typed_no _ (search (stopping, c.in_ok-id.ensures, c.in_ok-priority.ensures, c.in_err-order.ensures) depth 20))

pub returns-then-not-is_askable : goal.returns-then-not-is_askable
unfolding fetch parameters
returns-then-not-is_askable c = typed_no _ (search (stopping, c.in_ok-id.ensures, c.in_ok-priority.ensures, c.in_ok-order.ensures) depth 20)

pub returns-in_err-range : goal.returns-in_err-range
unfolding fetch parameters
returns-in_err-range c = rw (handed c.from_residual-in_err-range.ensures.1) (typed_no _ (search (stopping, ends, c.in_ok-id.ensures, c.in_ok-priority.ensures, c.in_ok-order.ensures, c.in_err-range.ensures) depth 20))

pub returns-in_err-parameters : goal.returns-in_err-parameters
unfolding fetch parameters
returns-in_err-parameters c = rw (handed c.from_residual-in_err-parameters.ensures.1) (typed_no _ (search (stopping, Stops.past, c.in_ok-id.ensures, c.in_ok-priority.ensures, c.in_ok-order.ensures, c.in_ok-range.ensures, c.in_err-parameters.ensures) depth 20))

pub returns : goal.returns
unfolding fetch parameters
returns c = typed-whole _ (search (going, To.past, c.in_ok-id.ensures, c.in_ok-priority.ensures, c.in_ok-order.ensures, c.in_ok-range.ensures, c.in_ok-parameters.ensures) depth 20)
