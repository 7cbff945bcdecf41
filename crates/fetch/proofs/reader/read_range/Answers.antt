-- `read_range` meets its contract. Assumes nothing.
use Rattle.common.proofs.Exits.{handed}
use Rattle.layout.proofs.Steps.{is-on, is-no, handed-on, number-as, number-past-as, stopping, going}
use Rattle.types.specs.Fetches.{range, standalone}
use Rattle.fetch.proofs.reader.read_range.Goals as goal

pub returns-in_err-kind : goal.returns-in_err-kind
unfolding range standalone
returns-in_err-kind c = rw (handed c.from_residual.ensures.1) (is-no (search (stopping, c.in_err-kind.ensures) depth 20))

pub returns-in_err-track-in-1 : goal.returns-in_err-track-in-1
unfolding range standalone
returns-in_err-track-in-1 c = rw (handed c.from_residual-in_err-track-in-1.ensures.1) (is-no (search (number-past-as, stopping, c.in_ok-kind.ensures, c.in_err-track-in-1.ensures) depth 20))

pub returns-in_err-start-in-1 : goal.returns-in_err-start-in-1
unfolding range standalone
returns-in_err-start-in-1 c = rw (handed c.from_residual-in_err-start-in-1.ensures.1) (is-no (search (number-past-as, stopping, c.in_ok-kind.ensures, c.in_ok-track-in-1.ensures, c.in_err-start-in-1.ensures) depth 20))

pub returns-in_err-end-in-1 : goal.returns-in_err-end-in-1
unfolding range standalone
returns-in_err-end-in-1 c = rw (handed c.from_residual-in_err-end-in-1.ensures.1) (is-no (search (number-past-as, stopping, c.in_ok-kind.ensures, c.in_ok-track-in-1.ensures, c.in_ok-start-in-1.ensures, c.in_err-end-in-1.ensures) depth 20))

pub returns-in_ok-end-in-1 : goal.returns-in_ok-end-in-1
unfolding range standalone
returns-in_ok-end-in-1 c = search (is-on, number-as, going, c.in_ok-kind.ensures, c.in_ok-track-in-1.ensures, c.in_ok-start-in-1.ensures, c.in_ok-end-in-1.ensures) depth 20

pub returns-in-2 : goal.returns-in-2
unfolding range standalone
returns-in-2 c = search (handed-on, number-as, going, c.in_ok-kind.ensures) depth 20

pub returns-in-3 : goal.returns-in-3
unfolding range standalone
returns-in-3 c = search (handed-on, number-as, going, c.in_ok-kind.ensures) depth 20

pub returns-in_default : goal.returns-in_default
unfolding range standalone
returns-in_default c = is-no (search (stopping, c.in_ok-kind.ensures) depth 20)
