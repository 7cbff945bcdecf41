-- `is_allowed` meets its contract. Assumes nothing.
use Rattle.common.proofs.Telling.{told_of}
use Rattle.layout.specs.Layout.{failure}
use Rattle.layout.specs.Allowed.{allowed}
use Rattle.types.specs.Fetches.{fetch_error, fetch_cancel, track_status_request}
use Rattle.types.specs.Table.{messages, type_row_in, type_row_of, layout_of}
use Rattle.fetch.proofs.Allows.{judged, fetch-is, ok-is}
use Rattle.fetch.proofs.writer.is_allowed.Goals as goal

pub returns-in-Fetch : goal.returns-in-Fetch
unfolding allowed failure fetch_error fetch_cancel track_status_request layout_of type_row_of type_row_in messages
returns-in-Fetch c = search fetch-is

pub returns-in-FetchOk : goal.returns-in-FetchOk
unfolding allowed failure fetch_error fetch_cancel track_status_request layout_of type_row_of type_row_in messages
returns-in-FetchOk c = search ok-is

pub returns-in-FetchError : goal.returns-in-FetchError
unfolding allowed failure fetch_error fetch_cancel track_status_request layout_of type_row_of type_row_in messages
returns-in-FetchError c = search (told_of judged)

pub returns-in-FetchCancel : goal.returns-in-FetchCancel
unfolding allowed failure fetch_error fetch_cancel track_status_request layout_of type_row_of type_row_in messages
returns-in-FetchCancel c = search (told_of judged)

pub returns-in-TrackStatusRequest : goal.returns-in-TrackStatusRequest
unfolding allowed failure fetch_error fetch_cancel track_status_request layout_of type_row_of type_row_in messages
returns-in-TrackStatusRequest c = search (told_of judged)

pub returns-in-TrackStatus : goal.returns-in-TrackStatus
unfolding allowed failure fetch_error fetch_cancel track_status_request layout_of type_row_of type_row_in messages
returns-in-TrackStatus c = search (told_of judged)
