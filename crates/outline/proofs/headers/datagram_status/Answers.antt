-- `datagram_status` meets its contract. Assumes nothing.
use mathlib.Core.Path.{◌∙◌}
use native.Mathlib.Omega.{arith}
use Rattle.common.proofs.Parts.{to_end}
use Rattle.layout.specs.Layout.{place}
use Rattle.header.specs.Layouts.{behind, object_datagram, datagram_status}
use Rattle.outline.proofs.Statuses.{before-status}
use Rattle.outline.specs.Places.{rest_of, ahead_of}
use Rattle.outline.proofs.OneByOne.{past}
use Rattle.outline.proofs.headers.datagram_status.Goals as goal

pub returns-in-len5-up : goal.returns-in-len5-up
unfolding rest_of ahead_of place behind object_datagram datagram_status
returns-in-len5-up c = let v = c.args.v.now in past datagram_status 5 v (omega arith) (rw (to_end v 5) at c.status.ensures)

pub returns-in_default : goal.returns-in_default
unfolding rest_of ahead_of place behind object_datagram datagram_status
returns-in_default c = c.object_datagram.ensures ∙ before-status c.args.v.now (omega arith)
