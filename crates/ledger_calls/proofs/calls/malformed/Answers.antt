-- `malformed` meets its contract. Assumes nothing.
use Rattle.ledger.specs.Steps.{malformed_of}
use Rattle.ledger_calls.specs.Calls.{malformed_call}
use Rattle.ledger_calls.proofs.CallsAnswered.{stepped}
use Rattle.ledger_calls.proofs.calls.malformed.Goals as goal

pub returns : goal.returns
unfolding malformed_call
returns c =
    stepped _ c.unpack.ensures c.malformed-closed.result c.number.ensures c.keep.ensures malformed_of c.malformed-closed.ensures
