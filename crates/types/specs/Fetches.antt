-- The layouts of FETCH, FETCH_OK, FETCH_ERROR, FETCH_CANCEL, TRACK_STATUS_REQUEST and TRACK_STATUS: sections 8.12 to
-- 8.17 of source document 004.
use Rattle.std.specs.Prelude.{ℕ, eqb}
use Rattle.field.specs.Fields.{integer, byte, track}
use Rattle.field.specs.Rules.{askable, givable}
use Rattle.layout.specs.Layout.{Layout, done, forbidden, field, when, place, failure, parameters, largest_place}
use Rattle.layout.specs.declared.FieldName.TheVariants.{SubscribeId, FullTrackName, SubscriberPriority, GroupOrder, FetchType, StartGroup, StartObject, EndGroup, EndObject, JoiningSubscribeId, JoiningStart, EndOfTrack, LargestGroupId, LargestObjectId, StatusCode}
use Rattle.types.specs.Rules.{is_track_status, may_hold}

-- a range of a track
unfoldable pub standalone : Layout
standalone =
    field FullTrackName track λ _. place StartGroup StartObject λ start_group start_object.
    place EndGroup EndObject λ end_group end_object. parameters

-- what joins a subscription
unfoldable pub joining : Layout
joining = field JoiningSubscribeId integer λ id. field JoiningStart integer λ start. parameters

-- the type, and what it says is fetched
unfoldable pub range : Layout
range =
    field FetchType integer λ type.
    when (eqb type 1) standalone (when (eqb type 2) joining (when (eqb type 3) joining forbidden))

unfoldable pub fetch : Layout
fetch =
    field SubscribeId integer λ id. field SubscriberPriority byte λ priority. field GroupOrder byte λ order.
    when (askable order) range forbidden

unfoldable pub fetch_ok : Layout
fetch_ok =
    field SubscribeId integer λ id. field GroupOrder byte λ order.
    when (givable order) (field EndOfTrack byte λ end_of_track. largest_place) forbidden

unfoldable pub fetch_error : Layout
fetch_error = field SubscribeId integer λ id. failure done

unfoldable pub fetch_cancel : Layout
fetch_cancel = field SubscribeId integer λ id. done

unfoldable pub track_status_request : Layout
track_status_request = field FullTrackName track λ _. done

-- where a track's content ends, after a status
unfoldable pub largest : ℕ → Layout
largest status =
    field LargestGroupId integer λ group.
    when (may_hold status group)
    (field LargestObjectId integer λ object. when (may_hold status object) done forbidden) forbidden

unfoldable pub track_status : Layout
track_status =
    field FullTrackName track λ _. field StatusCode integer λ status.
    when (is_track_status status) (largest status) forbidden
