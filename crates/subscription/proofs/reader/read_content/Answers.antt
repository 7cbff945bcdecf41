-- `read_content` meets its contract. Assumes nothing.
use Rattle.common.proofs.Exits.{handed}
use Rattle.layout.proofs.Steps.{is-on, is-no, byte-as, byte-past-as, stopping, going}
use Rattle.types.specs.Subscriptions.{content}
use Rattle.subscription.proofs.reader.read_content.Goals as goal

pub returns-in_err-exists : goal.returns-in_err-exists
unfolding content
returns-in_err-exists c = rw (handed c.from_residual.ensures.1) (is-no (search (stopping, c.in_err-exists.ensures) depth 20))

pub returns-in_err-largest-in-1 : goal.returns-in_err-largest-in-1
unfolding content
returns-in_err-largest-in-1 c = rw (handed c.from_residual-in_err-largest-in-1.ensures.1) (is-no (search (byte-past-as, stopping, c.in_ok-exists.ensures, c.in_err-largest-in-1.ensures) depth 20))

pub returns-in-0 : goal.returns-in-0
unfolding content
returns-in-0 c = search (is-on, byte-as, going, c.in_ok-exists.ensures) depth 20

pub returns-in_ok-largest-in-1 : goal.returns-in_ok-largest-in-1
unfolding content
returns-in_ok-largest-in-1 c = search (is-on, byte-as, going, c.in_ok-exists.ensures, c.in_ok-largest-in-1.ensures) depth 20

pub returns-in_default : goal.returns-in_default
unfolding content
returns-in_default c = is-no (search (stopping, c.in_ok-exists.ensures) depth 20)
