-- `read_datagram` meets its contract: the type, and the header that it names. Assumes nothing.
use mathlib.Core.Path.{refl}
use Rattle.common.proofs.Exits.{handed}
use Rattle.header.specs.Layouts.{datagrams}
use Rattle.header.proofs.Headed.{headed-cut, headed-unknown, headed-is, no-datagram}
use Rattle.header.proofs.StatusDatagrams.{is_open, has-status}
use Rattle.header.proofs.datagrams.read_datagram.Goals as goal

pub returns-in_err-number : goal.returns-in_err-number
returns-in_err-number c =
    rw (handed c.from_residual.ensures.1) (is_open _ (headed-cut 4 datagrams _ c.in_err-number.ensures) refl)

pub returns-in_err-d-in-1 : goal.returns-in_err-d-in-1
unfolding datagrams
returns-in_err-d-in-1 c =
    rw (handed c.from_residual-in_err-d-in-1.ensures.1)
    (is_open _ (headed-is 4 datagrams _ c.in_ok-number.ensures c.in-1.is refl c.in_err-d-in-1.ensures) refl)

pub returns-in_ok-d-in-1 : goal.returns-in_ok-d-in-1
unfolding datagrams
returns-in_ok-d-in-1 c =
    is_open _ (headed-is 4 datagrams _ c.in_ok-number.ensures c.in-1.is refl c.in_ok-d-in-1.ensures) refl

pub returns-in-2 : goal.returns-in-2
returns-in-2 c = has-status _ c.in_ok-number.ensures c.in-2.is c.read_status.ensures

pub returns-in_default : goal.returns-in_default
unfolding datagrams
returns-in_default c =
    is_open _ (headed-unknown 4 datagrams _ c.in_ok-number.ensures (search no-datagram)) refl
