-- `put_ending` meets its contract. Assumes nothing.
use Rattle.explanation.proofs.telling.put_ending.Goals as goal

pub returns-in-Answered : goal.returns-in-Answered
returns-in-Answered c = rw c.in-Answered.is c.put_answer.ensures

pub returns-in-Fault : goal.returns-in-Fault
returns-in-Fault c = rw (c.in-Fault.is, ← c.into.ensures) c.put_reason.ensures

pub returns-in-Read : goal.returns-in-Read
returns-in-Read c = rw c.in-Read.is c.put_answer-in-Read.ensures
