-- `read_error` meets its contract. Assumes nothing.
use Rattle.common.proofs.Exits.{handed}
use Rattle.layout.proofs.Family.{typed_no, typed-whole}
use Rattle.layout.proofs.Steps.{stopping, going}
use Rattle.types.specs.Fetches.{fetch_error}
use Rattle.fetch.proofs.reader.read_error.Goals as goal

pub returns-in_err-id : goal.returns-in_err-id
unfolding fetch_error
returns-in_err-id c = rw (handed c.from_residual.ensures.1) (typed_no _ (search (stopping, c.in_err-id.ensures) depth 20))

pub returns-in_err-failure : goal.returns-in_err-failure
unfolding fetch_error
returns-in_err-failure c = rw (handed c.from_residual-in_err-failure.ensures.1) (typed_no _ (search (stopping, c.in_ok-id.ensures, c.in_err-failure.ensures) depth 20))

pub returns : goal.returns
unfolding fetch_error
returns c = typed-whole _ (search (going, c.in_ok-id.ensures, c.in_ok-failure.ensures) depth 20)
