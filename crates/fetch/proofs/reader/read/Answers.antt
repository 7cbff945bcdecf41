-- `read` meets its contract: each kind by its own reader. Assumes nothing.
use Rattle.common.proofs.Exits.{handed}
use Rattle.layout.proofs.Family.{by-reader, by-fields, by-fault}
use Rattle.layout.proofs.Steps.{stopping, going}
use Rattle.types.specs.Fetches.{fetch_cancel, track_status_request}
use Rattle.types.specs.FetchKinds.{type_row, number_of, layout_of}
use Rattle.fetch.proofs.reader.read.Goals as goal

pub returns-in_err-id-in-FetchCancel : goal.returns-in_err-id-in-FetchCancel
unfolding type_row fetch_cancel track_status_request
returns-in_err-id-in-FetchCancel c = rw (handed c.from_residual.ensures.1) (search (by-fault number_of layout_of, stopping, c.in_err-id-in-FetchCancel.ensures) depth 10)

pub returns-in_err-track-in-TrackStatusRequest : goal.returns-in_err-track-in-TrackStatusRequest
unfolding type_row fetch_cancel track_status_request
returns-in_err-track-in-TrackStatusRequest c = rw (handed c.from_residual-in_err-track-in-TrackStatusRequest.ensures.1) (search (by-fault number_of layout_of, stopping, c.in_err-track-in-TrackStatusRequest.ensures) depth 10)

pub returns-in-Fetch : goal.returns-in-Fetch
unfolding type_row fetch_cancel track_status_request
returns-in-Fetch c = search (by-reader number_of layout_of)

pub returns-in-FetchOk : goal.returns-in-FetchOk
unfolding type_row fetch_cancel track_status_request
returns-in-FetchOk c = search (by-reader number_of layout_of)

pub returns-in-FetchError : goal.returns-in-FetchError
unfolding type_row fetch_cancel track_status_request
returns-in-FetchError c = search (by-reader number_of layout_of)

pub returns-in-TrackStatus : goal.returns-in-TrackStatus
unfolding type_row fetch_cancel track_status_request
returns-in-TrackStatus c = search (by-reader number_of layout_of)

pub returns-in_ok-id-in-FetchCancel : goal.returns-in_ok-id-in-FetchCancel
unfolding type_row fetch_cancel track_status_request
returns-in_ok-id-in-FetchCancel c = search (by-fields number_of layout_of, going, c.in_ok-id-in-FetchCancel.ensures) depth 10

pub returns-in_ok-track-in-TrackStatusRequest : goal.returns-in_ok-track-in-TrackStatusRequest
unfolding type_row fetch_cancel track_status_request
returns-in_ok-track-in-TrackStatusRequest c = search (by-fields number_of layout_of, going, c.in_ok-track-in-TrackStatusRequest.ensures) depth 10
