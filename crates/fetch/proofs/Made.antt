-- The message that a type and fields say. Made of any fields that the layout of its type reads, it says them. Assumes nothing.
use mathlib.Core.Path.{◌≡◌, refl}
use mathlib.Core.List.{List}
use borrow.Author.Tests.{eqb-true}
use lib.Dec.{eqb}
use Rattle.common.specs.Choice.{pick}
use Rattle.field.specs.declared.Piece.{Piece}
use Rattle.layout.proofs.Parts.{number_in, entries_in, track_in, place_in, failure_in}
use Rattle.layout.specs.Typed.{Typed}
use Rattle.layout.specs.Layout.{place, failure, parameters}
use Rattle.layout.proofs.Every.{Every}
use Rattle.types.specs.Table.{typed_as, fetch_row, fetch_ok_row, fetch_error_row, fetch_cancel_row, track_status_request_row}
use Rattle.types.specs.Fetches.{standalone, joining, range, fetch, fetch_ok, fetch_error, fetch_cancel, track_status_request, largest, track_status}
use Rattle.fetch.specs.declared.Range.TheVariants.{Standalone, Joining}
use Rattle.fetch.specs.declared.Fetch.{Fetch}
use Rattle.fetch.specs.declared.FetchMessage.{FetchMessage}
use Rattle.fetch.specs.declared.FetchMessage.TheVariants.{Fetch as AFetch, FetchOk as AFetchOk, FetchError as AFetchError, FetchCancel as AFetchCancel, TrackStatusRequest as ATrackStatusRequest, TrackStatus as ATrackStatus}
use Rattle.types.specs.FetchKinds.{type_row}
use Rattle.fetch.specs.Told.{typed_of}
use Rattle.types.specs.declared.kinds.FetchKind.{FetchKind}
use Rattle.types.specs.declared.kinds.FetchKind.TheVariants as kinds

-- a FETCH: the fetch type tells what is fetched, and so where the parameters stand
unfoldable pub fetch_of : List Piece → Fetch
fetch_of ps =
    let standalone = eqb (number_in ps 3) 1 in
    record {
      id = number_in ps 0;
      priority = number_in ps 1;
      order = number_in ps 2;
      range = pick standalone (Standalone (record { track = track_in ps 4; start = place_in ps 5; end = place_in ps 7 })) (Joining (record { absolute = eqb (number_in ps 3) 3; id = number_in ps 4; start = number_in ps 5 }));
      parameters = entries_in ps (pick standalone 9 6);
    }

-- by the number of its type, TRACK_STATUS where it is none of the others
unfoldable pub message_of : Typed → FetchMessage
message_of t =
    let ps = t.pieces in
    pick (eqb t.type fetch_row.number) (AFetch (fetch_of ps))
    (pick (eqb t.type fetch_ok_row.number) (AFetchOk (record { id = number_in ps 0; order = number_in ps 1; end_of_track = number_in ps 2; largest = place_in ps 3; parameters = entries_in ps 5 }))
    (pick (eqb t.type fetch_error_row.number) (AFetchError (record { id = number_in ps 0; failure = failure_in ps 1 }))
    (pick (eqb t.type fetch_cancel_row.number) (AFetchCancel (number_in ps 0))
    (pick (eqb t.type track_status_request_row.number) (ATrackStatusRequest (track_in ps 0))
    (ATrackStatus (record { track = track_in ps 0; status = number_in ps 1; largest = place_in ps 2 }))))))

-- whatever fields the layout of a kind reads, the message that is made of them says them
pub made-says : (k : FetchKind) → Every (type_row k).layout (λ ps. typed_of (message_of (typed_as (type_row k) ps)) ≡ typed_as (type_row k) ps)
unfolding type_row fetch_of message_of place failure parameters standalone joining range fetch fetch_ok fetch_error fetch_cancel track_status_request largest track_status
made-says kinds.Fetch =
    λ id priority order. (
      (λ may type. (
        (λ alone track group object end_group end_object ps. rw (eqb-true type 1 alone)),
        (λ n. (
          (λ relative joined start ps. rw (eqb-true type 2 relative)),
          (λ n. ((λ absolute joined start ps. rw (eqb-true type 3 absolute)), (λ n. tt))),
        )),
      )),
      (λ n. tt),
    )
made-says kinds.FetchOk = λ id order. ((λ may end_of_track group object ps. refl), (λ n. tt))
made-says kinds.FetchError = λ id code reason. refl
made-says kinds.FetchCancel = λ id. refl
made-says kinds.TrackStatusRequest = λ track. refl
made-says kinds.TrackStatus =
    λ track status.
    ((λ is group. ((λ may object. ((λ too. refl), (λ n. tt))), (λ n. tt))), (λ n. tt))
