-- Each message as the number of its type and its fields, in the order of its layout; and what a reader answers.
use Rattle.std.specs.Prelude.{ℕ, List, [], ◌∷◌, ◌++◌, Bool, Result}
use Rattle.common.specs.Choice.{pick}
use Rattle.field.specs.Outcome.{Outcome}
use Rattle.field.specs.declared.Fault.{Fault}
use Rattle.field.specs.declared.Kind.TheVariants.{Parameters}
use Rattle.field.specs.declared.Piece.{Piece}
use Rattle.field.specs.declared.Piece.TheVariants.{Number, Byte, Bytes, List as Listing, Track as Tracked}
use Rattle.layout.specs.Typed.{Typed, told_typed}
use Rattle.types.specs.Table.{typed_as, fetch_row, fetch_ok_row, fetch_error_row, fetch_cancel_row, track_status_request_row, track_status_row}
use Rattle.fetch.specs.declared.Range.{Range}
use Rattle.fetch.specs.declared.Range.TheVariants.{Standalone, Joining}
use Rattle.fetch.specs.declared.Fetch.{Fetch}
use Rattle.fetch.specs.declared.FetchOk.{FetchOk}
use Rattle.fetch.specs.declared.FetchError.{FetchError}
use Rattle.fetch.specs.declared.TrackStatus.{TrackStatus}
use Rattle.fetch.specs.declared.FetchMessage.{FetchMessage}
use Rattle.fetch.specs.declared.FetchMessage.TheVariants.{Fetch as AFetch, FetchOk as AFetchOk, FetchError as AFetchError, FetchCancel as AFetchCancel, TrackStatusRequest as ATrackStatusRequest, TrackStatus as ATrackStatus}

-- the fetch type of a joining fetch
abbrev pub joining_type : Bool → ℕ
joining_type absolute = pick absolute 3 2

abbrev pub range_pieces : Range → List Piece
range_pieces (Standalone r) =
    Number 1 ∷ Tracked r.track ∷ Number r.start.group ∷ Number r.start.object
    ∷ Number r.end.group ∷ Number r.end.object ∷ []
range_pieces (Joining j) = Number (joining_type j.absolute) ∷ Number j.id ∷ Number j.start ∷ []

abbrev pub fetch_pieces : Fetch → List Piece
fetch_pieces m =
    Number m.id ∷ Byte m.priority ∷ Byte m.order
    ∷ (range_pieces m.range ++ Listing Parameters m.parameters ∷ [])

abbrev pub ok_pieces : FetchOk → List Piece
ok_pieces m =
    Number m.id ∷ Byte m.order ∷ Byte m.end_of_track
    ∷ Number m.largest.group ∷ Number m.largest.object
    ∷ Listing Parameters m.parameters ∷ []

abbrev pub error_pieces : FetchError → List Piece
error_pieces m = Number m.id ∷ Number m.failure.code ∷ Bytes m.failure.reason ∷ []

abbrev pub status_pieces : TrackStatus → List Piece
status_pieces m =
    Tracked m.track ∷ Number m.status ∷ Number m.largest.group ∷ Number m.largest.object ∷ []

abbrev pub typed_of : FetchMessage → Typed
typed_of (AFetch m) = typed_as fetch_row (fetch_pieces m)
typed_of (AFetchOk m) = typed_as fetch_ok_row (ok_pieces m)
typed_of (AFetchError m) = typed_as fetch_error_row (error_pieces m)
typed_of (AFetchCancel id) = typed_as fetch_cancel_row (Number id ∷ [])
typed_of (ATrackStatusRequest t) = typed_as track_status_request_row (Tracked t ∷ [])
typed_of (ATrackStatus m) = typed_as track_status_row (status_pieces m)

abbrev pub told : Result (FetchMessage × ℕ) Fault → Outcome Typed
told = told_typed typed_of
