-- `malformed` meets its contract. Assumes nothing.
use mathlib.Core.Path.{refl}
use Rattle.ledger.specs.Steps.{malformed_of}
use Rattle.ledger.proofs.Gates.{stopped, went, went-ledger}
use Rattle.ledger.proofs.Ledger.malformed.Goals as goal

pub returns-in-Err : goal.returns-in-Err
unfolding malformed_of
returns-in-Err c = rw c.answers.ensures (stopped _ refl c.gate.ensures _ c.in-Err.is)

pub break_rule-requires : goal.break_rule-requires
unfolding malformed_of
break_rule-requires c = went-ledger _ refl c.gate.ensures c.in_default.is

pub returns : goal.returns
unfolding malformed_of
returns c = went _ refl c.gate.ensures c.in_default.is c.break_rule.ensures
