-- `arrival` meets its contract. Assumes nothing.
use Rattle.ledger.specs.Steps.{arrival_of}
use Rattle.ledger.proofs.Gates.{stopped, went, went-ledger}
use Rattle.ledger.proofs.Ledger.arrival.Goals as goal

pub returns-in-Err : goal.returns-in-Err
unfolding arrival_of
returns-in-Err c = rw c.answers.ensures (stopped _ c.is_small.ensures c.gate.ensures _ c.in-Err.is)

pub count-requires : goal.count-requires
unfolding arrival_of
count-requires c = went-ledger _ c.is_small.ensures c.gate.ensures c.in_default.is

pub returns : goal.returns
unfolding arrival_of
returns c = went _ c.is_small.ensures c.gate.ensures c.in_default.is c.count.ensures
