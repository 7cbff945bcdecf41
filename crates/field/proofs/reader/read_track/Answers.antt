-- `read_track` meets its contract: a namespace, and a name that may hold what it leaves of 4,096 bytes. Assumes nothing.
use Rattle.common.proofs.Exits.{handed}
use Rattle.field.proofs.Lists.{track-no, track-stop, track-whole}
use Rattle.field.proofs.reader.read_track.Goals as goal

pub returns-in_err-namespace : goal.returns-in_err-namespace
returns-in_err-namespace c = rw (handed c.from_residual.ensures.1) (track-no _ _ c.in_err-namespace.ensures)

pub returns-in_err-name : goal.returns-in_err-name
returns-in_err-name c = rw (handed c.from_residual-in_err-name.ensures.1) (search (track-stop, c.in_ok-namespace.ensures, c.in_err-name.ensures))

pub returns : goal.returns
returns c = search (track-whole, c.in_ok-namespace.ensures, c.in_ok-name.ensures)
