-- `hear` meets its contract. Assumes nothing.
use Rattle.std.proofs.Common.{ap, ◌∙◌}
use Rattle.common.proofs.Telling.{told_of}
use Rattle.replay.specs.Progressing.{goes_on, heard_of}
use Rattle.replay.proofs.steps.hear.Goals as goal

pub returns-in-Start : goal.returns-in-Start
returns-in-Start c = told_of (heard_of _) c.in-Start.is (c.heard.ensures ∙ ap goes_on c.start.ensures)

pub returns-in-Control : goal.returns-in-Control
returns-in-Control c = told_of (heard_of _) c.in-Control.is (c.heard-in-Control.ensures ∙ ap goes_on c.take.ensures)

pub returns-in-Malformed : goal.returns-in-Malformed
returns-in-Malformed c =
    told_of (heard_of _) c.in-Malformed.is (c.heard-in-Malformed.ensures ∙ ap goes_on c.malformed.ensures)

pub returns-in-Arrived : goal.returns-in-Arrived
returns-in-Arrived c = told_of (heard_of _) c.in-Arrived.is (c.heard-in-Arrived.ensures ∙ ap goes_on c.arrival.ensures)

pub returns-in-Fault : goal.returns-in-Fault
returns-in-Fault c = told_of (heard_of _) c.in-Fault.is (rw c.first_fault.ensures)
