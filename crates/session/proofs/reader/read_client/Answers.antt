-- `read_client` meets its contract. Assumes nothing.
use Rattle.common.proofs.Exits.{handed}
use Rattle.layout.specs.Layout.{parameters}
use Rattle.layout.proofs.Family.{typed_no, typed-whole}
use Rattle.layout.proofs.Steps.{stopping, going}
use Rattle.types.specs.Sessions.{client_setup}
use Rattle.session.proofs.reader.read_client.Goals as goal

pub returns-in_err-versions : goal.returns-in_err-versions
unfolding client_setup parameters
returns-in_err-versions c = rw (handed c.from_residual.ensures.1) (typed_no _ (search (stopping, c.in_err-versions.ensures) depth 20))

pub returns-in_err-parameters : goal.returns-in_err-parameters
unfolding client_setup parameters
returns-in_err-parameters c = rw (handed c.from_residual-in_err-parameters.ensures.1) (typed_no _ (search (stopping, c.in_ok-versions.ensures, c.in_err-parameters.ensures) depth 20))

pub returns : goal.returns
unfolding client_setup parameters
returns c = typed-whole _ (search (going, c.in_ok-versions.ensures, c.in_ok-parameters.ensures) depth 20)
