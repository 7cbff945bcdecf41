-- `read_server` meets its contract. Assumes nothing.
use Rattle.common.proofs.Exits.{handed}
use Rattle.layout.specs.Layout.{parameters}
use Rattle.layout.proofs.Family.{typed_no, typed-whole}
use Rattle.layout.proofs.Steps.{stopping, going}
use Rattle.types.specs.Sessions.{server_setup}
use Rattle.session.proofs.reader.read_server.Goals as goal

pub returns-in_err-version : goal.returns-in_err-version
unfolding server_setup parameters
returns-in_err-version c = rw (handed c.from_residual.ensures.1) (typed_no _ (search (stopping, c.in_err-version.ensures) depth 20))

pub returns-in_err-parameters : goal.returns-in_err-parameters
unfolding server_setup parameters
returns-in_err-parameters c = rw (handed c.from_residual-in_err-parameters.ensures.1) (typed_no _ (search (stopping, c.in_ok-version.ensures, c.in_err-parameters.ensures) depth 20))

pub returns : goal.returns
unfolding server_setup parameters
returns c = typed-whole _ (search (going, c.in_ok-version.ensures, c.in_ok-parameters.ensures) depth 20)
