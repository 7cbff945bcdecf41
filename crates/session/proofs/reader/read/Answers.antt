-- `read` meets its contract: each kind by its own reader. Assumes nothing.
use Rattle.common.proofs.Exits.{handed}
use Rattle.layout.proofs.Family.{by-reader, by-fields, by-fault}
use Rattle.layout.proofs.Steps.{stopping, going}
use Rattle.types.specs.Sessions.{go_away}
use Rattle.types.specs.SessionKinds.{type_row, number_of, layout_of}
use Rattle.session.proofs.reader.read.Goals as goal

pub returns-in_err-uri-in-GoAway : goal.returns-in_err-uri-in-GoAway
unfolding type_row go_away
returns-in_err-uri-in-GoAway c = rw (handed c.from_residual.ensures.1) (search (by-fault number_of layout_of, stopping, c.in_err-uri-in-GoAway.ensures) depth 10)

pub returns-in-ClientSetup : goal.returns-in-ClientSetup
unfolding type_row go_away
returns-in-ClientSetup c = search (by-reader number_of layout_of)

pub returns-in-ServerSetup : goal.returns-in-ServerSetup
unfolding type_row go_away
returns-in-ServerSetup c = search (by-reader number_of layout_of)

pub returns-in_ok-uri-in-GoAway : goal.returns-in_ok-uri-in-GoAway
unfolding type_row go_away
returns-in_ok-uri-in-GoAway c = search (by-fields number_of layout_of, going, c.in_ok-uri-in-GoAway.ensures) depth 10
