-- The layouts of SUBSCRIBE_UPDATE, SUBSCRIBE, SUBSCRIBE_OK, SUBSCRIBE_ERROR, UNSUBSCRIBE, SUBSCRIBE_DONE,
-- MAX_SUBSCRIBE_ID and SUBSCRIBES_BLOCKED: sections 8.4 to 8.11 of source document 004.
use Rattle.std.specs.Prelude.{ℕ, eqb}
use Rattle.field.specs.Fields.{integer, byte, bytes, track}
use Rattle.field.specs.Rules.{askable, givable}
use Rattle.layout.specs.Layout.{Layout, done, forbidden, field, when, place, failure, parameters, largest_place}
use Rattle.layout.specs.declared.FieldName.{FieldName}
use Rattle.layout.specs.declared.FieldName.TheVariants.{SubscribeId, TrackAlias, FullTrackName, SubscriberPriority, GroupOrder, FilterType, StartGroup, StartObject, EndGroup, Expires, ContentExists, StatusCode, StreamCount, ReasonPhrase}
use Rattle.types.specs.Rules.{ends_after}

unfoldable pub subscribe_update : Layout
subscribe_update =
    field SubscribeId integer λ id. place StartGroup StartObject λ start_group start_object.
    field EndGroup integer λ end_group. field SubscriberPriority byte λ priority. parameters

-- the end of a range, after its start
unfoldable pub ending : ℕ → Layout
ending start_group = field EndGroup integer λ end_group. when (ends_after start_group end_group) parameters forbidden

-- a range without an end, and one with an end
abbrev pub open_range : Layout
open_range = place StartGroup StartObject λ start_group start_object. parameters

abbrev pub closed_range : Layout
closed_range = place StartGroup StartObject λ start_group start_object. ending start_group

-- the filter, and what it asks for
unfoldable pub filter : Layout
filter =
    field FilterType integer λ type.
    when (eqb type 2) parameters (when (eqb type 3) open_range (when (eqb type 4) closed_range forbidden))

unfoldable pub delivery : Layout
delivery =
    field SubscriberPriority byte λ priority. field GroupOrder byte λ order. when (askable order) filter forbidden

unfoldable pub subscribe : Layout
subscribe = field SubscribeId integer λ id. field TrackAlias integer λ alias. field FullTrackName track λ _. delivery

-- whether there is content, and where it ends
unfoldable pub content : Layout
content =
    field ContentExists byte λ exists.
    when (eqb exists 0) parameters (when (eqb exists 1) largest_place forbidden)

unfoldable pub subscribe_ok : Layout
subscribe_ok =
    field SubscribeId integer λ id. field Expires integer λ expires. field GroupOrder byte λ order.
    when (givable order) content forbidden

unfoldable pub subscribe_error : Layout
subscribe_error = field SubscribeId integer λ id. failure (field TrackAlias integer λ alias. done)

unfoldable pub subscribe_done : Layout
subscribe_done =
    field SubscribeId integer λ id. field StatusCode integer λ status. field StreamCount integer λ streams.
    field ReasonPhrase bytes λ _. done

-- an ID alone: a Subscribe ID, or the Maximum Subscribe ID
unfoldable pub id_only : FieldName → Layout
id_only name = field name integer λ id. done
