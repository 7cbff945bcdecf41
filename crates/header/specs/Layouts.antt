-- The layouts of data headers: section 9 of source document 004, figures 29 to 34. Payloads are not read.
use Rattle.std.specs.Prelude.{ℕ, List, [], ◌∷◌, eqb}
use Rattle.common.specs.Choice.{pick}
use Rattle.field.specs.Fields.{integer, byte, bytes}
use Rattle.field.specs.declared.Piece.{Piece}
use Rattle.layout.specs.Layout.{Layout, done, forbidden, field, when, place}
use Rattle.layout.specs.Typed.{Typed}
use Rattle.layout.specs.declared.FieldName.TheVariants.{SubscribeId, TrackAlias, GroupId, SubgroupId, ObjectId, PublisherPriority, ExtensionHeaders, ObjectPayloadLength, ObjectStatus}
use Rattle.header.specs.Rules.{is_object_status}

-- a layout, and after it another
unfoldable pub behind : Layout → Layout → Layout
behind done l = l
behind forbidden l = forbidden
behind (field name form next) l = field name form λ n. behind (next n) l
behind (when test k m) l = when test (behind k l) (behind m l)

-- why an object has no payload
unfoldable pub status : Layout
status = field ObjectStatus integer λ status. when (is_object_status status) done forbidden

-- ---- datagrams

-- extension headers are read by their length in bytes
unfoldable pub object_datagram : Layout
object_datagram =
    field TrackAlias integer λ alias. place GroupId ObjectId λ group object. field PublisherPriority byte λ priority.
    field ExtensionHeaders bytes λ _. done

-- "similar to OBJECT_DATAGRAM except it conveys an Object Status and has no payload"
unfoldable pub datagram_status : Layout
datagram_status = behind object_datagram status

-- ---- the headers of streams

unfoldable pub subgroup_header : Layout
subgroup_header =
    field TrackAlias integer λ alias. field GroupId integer λ group. field SubgroupId integer λ subgroup.
    field PublisherPriority byte λ priority. done

unfoldable pub fetch_header : Layout
fetch_header = field SubscribeId integer λ id. done

-- ---- the headers of objects on a stream

-- "The Object Status field is only sent if the Object Payload Length is zero."
unfoldable pub payload : Layout
payload = field ObjectPayloadLength integer λ length. when (eqb length 0) status done

unfoldable pub subgroup_object : Layout
subgroup_object = field ObjectId integer λ object. field ExtensionHeaders bytes λ _. payload

unfoldable pub fetch_object : Layout
fetch_object =
    field GroupId integer λ group. field SubgroupId integer λ subgroup. field ObjectId integer λ object.
    field PublisherPriority byte λ priority. field ExtensionHeaders bytes λ _. payload

-- ---- the types: tables 8 and 9 of source document 004

-- Each header that has a type stands in one row: the number of its type, and its layout.
pub record HeaderRow : Type 0 where
  pub number : ℕ
  pub layout : Layout

abbrev pub object_datagram_row : HeaderRow
object_datagram_row = record { number = 0x1; layout = object_datagram }

abbrev pub object_datagram_status_row : HeaderRow
object_datagram_status_row = record { number = 0x2; layout = datagram_status }

abbrev pub subgroup_header_row : HeaderRow
subgroup_header_row = record { number = 0x4; layout = subgroup_header }

abbrev pub fetch_header_row : HeaderRow
fetch_header_row = record { number = 0x5; layout = fetch_header }

-- a header of a row: the number of its type, and its fields
abbrev pub typed_as : HeaderRow → List Piece → Typed
typed_as r ps = record { type = r.number; pieces = ps }

-- ---- a type, looked up

-- the layout that stands beside a number, or that the number stands in no row
pub data InTable : Type 0 where
  listed : Layout → InTable
  unlisted : InTable

-- it, and where there is none, that everything is forbidden
abbrev pub layout_of : InTable → Layout
layout_of (listed l) = l
layout_of unlisted = forbidden

abbrev pub on_listed : {A : Type 0} → InTable → A → (Layout → A) → A
on_listed (listed l) none f = f l
on_listed unlisted none f = none

abbrev pub layout_in : List HeaderRow → ℕ → InTable
layout_in [] type = unlisted
layout_in (r ∷ rs) type = pick (eqb type r.number) (listed r.layout) (layout_in rs type)

-- what a datagram begins with
unfoldable pub datagrams : ℕ → InTable
datagrams type = layout_in (object_datagram_row ∷ object_datagram_status_row ∷ []) type

-- what a unidirectional stream begins with
unfoldable pub streams : ℕ → InTable
streams type = layout_in (subgroup_header_row ∷ fetch_header_row ∷ []) type
