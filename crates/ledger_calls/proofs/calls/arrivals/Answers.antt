-- `arrivals` meets its contract. Assumes nothing.
use mathlib.Core.Path.{refl}
use Rattle.common.specs.Answer.{number}
use Rattle.ledger_calls.proofs.CallsAnswered.{ran}
use Rattle.ledger_calls.proofs.calls.arrivals.Goals as goal

pub returns-in-Ok : goal.returns-in-Ok
unfolding number
returns-in-Ok c = ran _ _ _ c.unpack.ensures c.arrivals-ran.ensures c.keep.ensures c.in-Ok.is refl

pub returns-in-Err : goal.returns-in-Err
unfolding number
returns-in-Err c =
    ran _ _ _ c.unpack.ensures c.arrivals-ran.ensures c.keep.ensures c.in-Err.is c.run_refusal.ensures
