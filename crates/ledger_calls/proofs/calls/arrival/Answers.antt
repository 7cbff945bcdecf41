-- `arrival` meets its contract. Assumes nothing.
use Rattle.ledger.specs.Steps.{arrival_of}
use Rattle.ledger_calls.specs.Calls.{arrival_call}
use Rattle.ledger_calls.proofs.CallsAnswered.{stepped}
use Rattle.ledger_calls.proofs.calls.arrival.Goals as goal

pub returns : goal.returns
unfolding arrival_call
returns c =
    let a = c.args in
    stepped _ c.unpack.ensures c.arrival-counted.result c.number.ensures c.keep.ensures (λ l. arrival_of l (record { alias = a.alias; place = record { group = a.group; object = a.object } })) c.arrival-counted.ensures
