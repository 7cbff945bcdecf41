-- `read_status` meets its contract. Assumes nothing.
use Rattle.common.proofs.Exits.{handed}
use Rattle.layout.proofs.Family.{typed_no, typed-whole}
use Rattle.layout.proofs.Steps.{stopping, going}
use Rattle.types.specs.Fetches.{track_status, largest}
use Rattle.fetch.proofs.reader.read_status.Goals as goal

pub returns-in_err-track : goal.returns-in_err-track
unfolding track_status largest
returns-in_err-track c = rw (handed c.from_residual.ensures.1) (typed_no _ (search (stopping, c.in_err-track.ensures) depth 20))

pub returns-in_err-status : goal.returns-in_err-status
unfolding track_status largest
returns-in_err-status c = rw (handed c.from_residual-in_err-status.ensures.1) (typed_no _ (search (stopping, c.in_ok-track.ensures, c.in_err-status.ensures) depth 20))

pub returns-then-not-is_track_status : goal.returns-then-not-is_track_status
unfolding track_status largest
returns-then-not-is_track_status c = typed_no _ (search (stopping, c.in_ok-track.ensures, c.in_ok-status.ensures) depth 20)

pub returns-in_err-group : goal.returns-in_err-group
unfolding track_status largest
returns-in_err-group c = rw (handed c.from_residual-in_err-group.ensures.1) (typed_no _ (search (stopping, c.in_ok-track.ensures, c.in_ok-status.ensures, c.in_err-group.ensures) depth 20))

pub returns-then-not-may_hold : goal.returns-then-not-may_hold
unfolding track_status largest
returns-then-not-may_hold c = typed_no _ (search (stopping, c.in_ok-track.ensures, c.in_ok-status.ensures, c.in_ok-group.ensures) depth 20)

pub returns-in_err-object : goal.returns-in_err-object
unfolding track_status largest
returns-in_err-object c = rw (handed c.from_residual-in_err-object.ensures.1) (typed_no _ (search (stopping, c.in_ok-track.ensures, c.in_ok-status.ensures, c.in_ok-group.ensures, c.in_err-object.ensures) depth 20))

pub returns-then-not-may_hold-2 : goal.returns-then-not-may_hold-2
unfolding track_status largest
returns-then-not-may_hold-2 c = typed_no _ (search (stopping, c.in_ok-track.ensures, c.in_ok-status.ensures, c.in_ok-group.ensures, c.in_ok-object.ensures) depth 20)

pub returns : goal.returns
unfolding track_status largest
returns c = typed-whole _ (search (going, c.in_ok-track.ensures, c.in_ok-status.ensures, c.in_ok-group.ensures, c.in_ok-object.ensures) depth 20)
