-- `line` meets its contract. Assumes nothing.
use Rattle.answers.proofs.lines.line.Goals as goal

pub returns-in-Start : goal.returns-in-Start
returns-in-Start c = rw c.in-Start.is c.answer_line.ensures

pub returns-in-Control : goal.returns-in-Control
returns-in-Control c = rw (c.in-Control.is, ← c.number.ensures) c.answer_line-in-Control.ensures

pub returns-in-Malformed : goal.returns-in-Malformed
returns-in-Malformed c = rw c.in-Malformed.is c.malformed_line.ensures

pub returns-in-Arrived : goal.returns-in-Arrived
returns-in-Arrived c = rw c.in-Arrived.is c.answer_line-in-Arrived.ensures

pub returns-in-Fault : goal.returns-in-Fault
returns-in-Fault c = rw c.in-Fault.is c.of.ensures
