-- The row of the table that each kind of message stands in.
use Rattle.std.specs.Prelude.{ℕ}
use Rattle.layout.specs.Layout.{Layout}
use Rattle.types.specs.Table.{TypeRow, fetch_row, fetch_ok_row, fetch_error_row, fetch_cancel_row, track_status_request_row, track_status_row}
use Rattle.types.specs.declared.kinds.FetchKind.{FetchKind}
use Rattle.types.specs.declared.kinds.FetchKind.TheVariants.{Fetch, FetchOk, FetchError, FetchCancel, TrackStatusRequest, TrackStatus}

unfoldable pub type_row : FetchKind → TypeRow
type_row Fetch = fetch_row
type_row FetchOk = fetch_ok_row
type_row FetchError = fetch_error_row
type_row FetchCancel = fetch_cancel_row
type_row TrackStatusRequest = track_status_request_row
type_row TrackStatus = track_status_row

-- its number, and the layout of its body
abbrev pub number_of : FetchKind → ℕ
number_of kind = (type_row kind).number

abbrev pub layout_of : FetchKind → Layout
layout_of kind = (type_row kind).layout
