-- `read_filter` meets its contract. Assumes nothing.
use Rattle.common.proofs.Exits.{handed}
use Rattle.layout.proofs.Steps.{is-on, is-no, number-as, number-past-as, stopping, going}
use Rattle.types.specs.Subscriptions.{filter, ending}
use Rattle.subscription.proofs.reader.read_filter.Goals as goal

pub returns-in_err-kind : goal.returns-in_err-kind
unfolding filter ending
returns-in_err-kind c = rw (handed c.from_residual.ensures.1) (is-no (search (stopping, c.in_err-kind.ensures) depth 20))

pub returns-in_err-start-in-3 : goal.returns-in_err-start-in-3
unfolding filter ending
returns-in_err-start-in-3 c = rw (handed c.from_residual-in_err-start-in-3.ensures.1) (is-no (search (number-past-as, stopping, c.in_ok-kind.ensures, c.in_err-start-in-3.ensures) depth 20))

pub returns-in_err-start-in-4 : goal.returns-in_err-start-in-4
unfolding filter ending
returns-in_err-start-in-4 c = rw (handed c.from_residual-in_err-start-in-4.ensures.1) (is-no (search (number-past-as, stopping, c.in_ok-kind.ensures, c.in_err-start-in-4.ensures) depth 20))

pub returns-in_err-end_group-in-4 : goal.returns-in_err-end_group-in-4
unfolding filter ending
returns-in_err-end_group-in-4 c = rw (handed c.from_residual-in_err-end_group-in-4.ensures.1) (is-no (search (number-past-as, stopping, c.in_ok-kind.ensures, c.in_ok-start-in-4.ensures, c.in_err-end_group-in-4.ensures) depth 20))

pub returns-then-not-ends_after : goal.returns-then-not-ends_after
unfolding filter ending
returns-then-not-ends_after c = is-no (search (number-past-as, stopping, c.in_ok-kind.ensures, c.in_ok-start-in-4.ensures, c.in_ok-end_group-in-4.ensures) depth 20 fits 9000)

pub returns-in-2 : goal.returns-in-2
unfolding filter ending
returns-in-2 c = search (is-on, number-as, going, c.in_ok-kind.ensures) depth 20

pub returns-in_ok-start-in-3 : goal.returns-in_ok-start-in-3
unfolding filter ending
returns-in_ok-start-in-3 c = search (is-on, number-as, going, c.in_ok-kind.ensures, c.in_ok-start-in-3.ensures) depth 20

pub returns-else-not-ends_after : goal.returns-else-not-ends_after
unfolding filter ending
returns-else-not-ends_after c = search (is-on, number-as, going, c.in_ok-kind.ensures, c.in_ok-start-in-4.ensures, c.in_ok-end_group-in-4.ensures) depth 20

pub returns-in_default : goal.returns-in_default
unfolding filter ending
returns-in_default c = is-no (search (stopping, c.in_ok-kind.ensures) depth 20)
