-- THE TABLE OF TYPES: table 2 of source document 004. Each control message stands in one row: the number of its type,
-- its name, the family that reads and writes it, and the layout of its body.
use Rattle.std.specs.Prelude.{ℕ, Bool, true, false, List, [], ◌∷◌, eqb}
use Prim.Native.String.{String}
use Rattle.common.specs.Choice.{pick}
use Rattle.field.specs.declared.Piece.{Piece}
use Rattle.layout.specs.Layout.{Layout, done, forbidden, failure, parameters}
use Rattle.layout.specs.Allowed.{allowed}
use Rattle.layout.specs.Typed.{Typed}
use Rattle.layout.specs.declared.FieldName.TheVariants.{SubscribeId, MaximumSubscribeId, TrackNamespace, TrackNamespacePrefix}
use Rattle.types.specs.Letters.{letters}
use Rattle.types.specs.Sessions.{client_setup, server_setup, go_away}
use Rattle.types.specs.Subscriptions.{subscribe_update, subscribe, subscribe_ok, subscribe_error, subscribe_done, id_only}
use Rattle.types.specs.Fetches.{fetch, fetch_ok, fetch_error, fetch_cancel, track_status_request, track_status}
use Rattle.types.specs.Announces.{named}

-- what a message is about: the session, a subscription, a fetch, a namespace
pub data Family : Type 0 where
  sessions : Family
  subscriptions : Family
  fetches : Family
  announces : Family

pub record TypeRow : Type 0 where
  pub number : ℕ
  pub name : String
  pub family : Family
  pub layout : Layout

abbrev row : ℕ → String → Family → Layout → TypeRow
row number name family layout = record { number = number; name = name; family = family; layout = layout }

-- a message of a row: the number of its type, and its fields
abbrev pub typed_as : TypeRow → List Piece → Typed
typed_as r ps = record { type = r.number; pieces = ps }

-- ---- the rows

abbrev pub client_setup_row : TypeRow
client_setup_row = row 0x40 "CLIENT_SETUP" sessions client_setup

abbrev pub server_setup_row : TypeRow
server_setup_row = row 0x41 "SERVER_SETUP" sessions server_setup

abbrev pub goaway_row : TypeRow
goaway_row = row 0x10 "GOAWAY" sessions go_away

abbrev pub max_subscribe_id_row : TypeRow
max_subscribe_id_row = row 0x15 "MAX_SUBSCRIBE_ID" subscriptions (id_only SubscribeId)

abbrev pub subscribes_blocked_row : TypeRow
subscribes_blocked_row = row 0x1A "SUBSCRIBES_BLOCKED" subscriptions (id_only MaximumSubscribeId)

abbrev pub subscribe_row : TypeRow
subscribe_row = row 0x3 "SUBSCRIBE" subscriptions subscribe

abbrev pub subscribe_ok_row : TypeRow
subscribe_ok_row = row 0x4 "SUBSCRIBE_OK" subscriptions subscribe_ok

abbrev pub subscribe_error_row : TypeRow
subscribe_error_row = row 0x5 "SUBSCRIBE_ERROR" subscriptions subscribe_error

abbrev pub unsubscribe_row : TypeRow
unsubscribe_row = row 0xA "UNSUBSCRIBE" subscriptions (id_only SubscribeId)

abbrev pub subscribe_update_row : TypeRow
subscribe_update_row = row 0x2 "SUBSCRIBE_UPDATE" subscriptions subscribe_update

abbrev pub subscribe_done_row : TypeRow
subscribe_done_row = row 0xB "SUBSCRIBE_DONE" subscriptions subscribe_done

abbrev pub fetch_row : TypeRow
fetch_row = row 0x16 "FETCH" fetches fetch

abbrev pub fetch_ok_row : TypeRow
fetch_ok_row = row 0x18 "FETCH_OK" fetches fetch_ok

abbrev pub fetch_error_row : TypeRow
fetch_error_row = row 0x19 "FETCH_ERROR" fetches fetch_error

abbrev pub fetch_cancel_row : TypeRow
fetch_cancel_row = row 0x17 "FETCH_CANCEL" fetches fetch_cancel

abbrev pub track_status_request_row : TypeRow
track_status_request_row = row 0xD "TRACK_STATUS_REQUEST" fetches track_status_request

abbrev pub track_status_row : TypeRow
track_status_row = row 0xE "TRACK_STATUS" fetches track_status

abbrev pub announce_row : TypeRow
announce_row = row 0x6 "ANNOUNCE" announces (named TrackNamespace parameters)

abbrev pub announce_ok_row : TypeRow
announce_ok_row = row 0x7 "ANNOUNCE_OK" announces (named TrackNamespace done)

abbrev pub announce_error_row : TypeRow
announce_error_row = row 0x8 "ANNOUNCE_ERROR" announces (named TrackNamespace (failure done))

abbrev pub unannounce_row : TypeRow
unannounce_row = row 0x9 "UNANNOUNCE" announces (named TrackNamespace done)

abbrev pub announce_cancel_row : TypeRow
announce_cancel_row = row 0xC "ANNOUNCE_CANCEL" announces (named TrackNamespace (failure done))

abbrev pub subscribe_announces_row : TypeRow
subscribe_announces_row = row 0x11 "SUBSCRIBE_ANNOUNCES" announces (named TrackNamespacePrefix parameters)

abbrev pub subscribe_announces_ok_row : TypeRow
subscribe_announces_ok_row = row 0x12 "SUBSCRIBE_ANNOUNCES_OK" announces (named TrackNamespacePrefix done)

abbrev pub subscribe_announces_error_row : TypeRow
subscribe_announces_error_row =
    row 0x13 "SUBSCRIBE_ANNOUNCES_ERROR" announces (named TrackNamespacePrefix (failure done))

abbrev pub unsubscribe_announces_row : TypeRow
unsubscribe_announces_row = row 0x14 "UNSUBSCRIBE_ANNOUNCES" announces (named TrackNamespacePrefix done)

-- all of them, in the order of 004
unfoldable pub messages : List TypeRow
messages =
    client_setup_row ∷ server_setup_row ∷ goaway_row ∷ max_subscribe_id_row ∷ subscribes_blocked_row
    ∷ subscribe_row ∷ subscribe_ok_row ∷ subscribe_error_row
    ∷ unsubscribe_row ∷ subscribe_update_row ∷ subscribe_done_row
    ∷ fetch_row ∷ fetch_ok_row ∷ fetch_error_row ∷ fetch_cancel_row
    ∷ track_status_request_row ∷ track_status_row
    ∷ announce_row ∷ announce_ok_row ∷ announce_error_row
    ∷ unannounce_row ∷ announce_cancel_row
    ∷ subscribe_announces_row ∷ subscribe_announces_ok_row ∷ subscribe_announces_error_row
    ∷ unsubscribe_announces_row ∷ []

-- ---- a type, looked up

-- the row that a number stands in, or that it stands in none
pub data InTable : Type 0 where
  listed : TypeRow → InTable
  unlisted : InTable

abbrev pub on_listed : {A : Type 0} → InTable → A → (TypeRow → A) → A
on_listed (listed r) none f = f r
on_listed unlisted none f = none

unfoldable pub type_row_in : List TypeRow → ℕ → InTable
type_row_in [] type = unlisted
type_row_in (r ∷ rs) type = pick (eqb type r.number) (listed r) (type_row_in rs type)

unfoldable pub type_row_of : ℕ → InTable
type_row_of type = type_row_in messages type

-- "Types fall into known numbers, gaps between them and numbers beyond the last"
unfoldable pub known : ℕ → Bool
known type = on_listed (type_row_of type) false (λ r. true)

-- the body of a message of a type
unfoldable pub layout_of : ℕ → Layout
layout_of type = on_listed (type_row_of type) forbidden (λ r. r.layout)

-- and its name, as 004 spells it
unfoldable pub name_of : ℕ → List ℕ
name_of type = on_listed (type_row_of type) [] (λ r. letters r.name)

-- "Forbidden field values (5)": whether a message holds none that the layout of its type forbids
abbrev pub allowed_typed : Typed → Bool
allowed_typed t = allowed (layout_of t.type) t.pieces
