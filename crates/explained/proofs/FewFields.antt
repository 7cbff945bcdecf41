-- Every layout of a message or of a header begins with a field and has at most ten. Assumes nothing.
use Prim.Native.Nat.{ℕ}
use mathlib.Core.Path.{◌≡◌, refl}
use mathlib.Core.List.{List, [], ◌∷◌}
use mathlib.Core.Bool.{Bool, true, false}
use native.Mathlib.Omega.{arith}
use lib.Dec.{eqb}
use Rattle.common.specs.Choice.{pick, both}
use Rattle.common.proofs.Tests.{both_first, both-second}
use Rattle.common.proofs.Cases.{pick-by}
use Rattle.layout.specs.Layout.{forbidden, place, failure, parameters}
use Rattle.types.specs.Sessions.{client_setup, server_setup, go_away}
use Rattle.types.specs.Subscriptions.{subscribe_update, ending, filter, delivery, subscribe, content, subscribe_ok, subscribe_error, subscribe_done, id_only}
use Rattle.types.specs.Fetches.{standalone, joining, range, fetch, fetch_ok, fetch_error, fetch_cancel, track_status_request, largest, track_status}
use Rattle.types.specs.Announces.{named}
use Rattle.types.specs.Table.{TypeRow, InTable, on_listed, messages, type_row_in, type_row_of, known, layout_of}
use Rattle.header.specs.Layouts.{InTable as HeaderTable, listed, unlisted, object_datagram_row, object_datagram_status_row, subgroup_header_row, fetch_header_row, datagrams, streams, behind, status, object_datagram, datagram_status, subgroup_header, fetch_header, payload, subgroup_object, fetch_object}
use Rattle.outline.specs.Places.{rest_of, ahead_of, laid_out, ahead_at}
use Rattle.outline.specs.declared.Ahead.{Ahead}
use Rattle.outline.specs.declared.Ahead.TheVariants.{Field, Done, Forbidden}
use Rattle.outline.specs.declared.Outline.{Outline}
use Rattle.outline.specs.declared.Outline.TheVariants.{Message, Datagram, Stream}
use Rattle.parts.specs.Cursors.{most_fields}
use Rattle.parts.specs.Advancing.{behind_type}
use Rattle.parts.specs.declared.Stage.TheVariants.{Length as AtLength, Refused as Stopped, Field as AtField}
use Rattle.explained.proofs.PlacesReached.{Shallow}

-- ---- what has few fields

-- of each row, that its layout has at most so many as are kept
data AllShallow : List TypeRow → Type 0 where
  end : AllShallow []
  ◌also◌ : {r : TypeRow} {rs : List TypeRow} → Shallow most_fields r.layout → AllShallow rs → AllShallow (r ∷ rs)

infixr 67 ◌also◌
-- so has the layout of every type
by_row : {rows : List TypeRow} (type : ℕ) → AllShallow rows → Shallow most_fields (on_listed (type_row_in rows type) forbidden (λ r. r.layout))
unfolding type_row_in
by_row type end = tt
by_row type (◌also◌ {r = r} h k) =
    pick-by (λ (t : InTable). Shallow most_fields (on_listed t forbidden (λ r. r.layout))) (eqb type r.number)
    (λ e. h) (λ e. by_row type k)

-- (those of many fields, each by itself)
update-shallow : Shallow most_fields subscribe_update
unfolding subscribe_update place parameters
update-shallow = search depth 8

filter-shallow : Shallow 5 filter
unfolding filter ending place parameters
filter-shallow = search depth 8

subscribe-shallow : Shallow most_fields subscribe
unfolding subscribe delivery
subscribe-shallow = search filter-shallow depth 8

fetch-shallow : Shallow most_fields fetch
unfolding fetch range standalone joining place parameters
fetch-shallow = search depth 12

ok-shallow : Shallow most_fields subscribe_ok
unfolding subscribe_ok content place parameters
ok-shallow = search depth 8

fetch-ok-shallow : Shallow most_fields fetch_ok
unfolding fetch_ok place parameters
fetch-ok-shallow = search depth 8

status-shallow : Shallow most_fields track_status
unfolding track_status largest
status-shallow = search depth 8

pub message-shallow : (type : ℕ) → Shallow most_fields (layout_of type)
unfolding layout_of type_row_of messages client_setup server_setup go_away subscribe_error subscribe_done id_only fetch_error fetch_cancel track_status_request named failure parameters
message-shallow type =
    let one : ℕ → Unit {0} = λ n. tt in
    let two : ℕ → ℕ → Unit {0} = λ n. one in
    let three : ℕ → ℕ → ℕ → Unit {0} = λ n. two in
    let four : ℕ → ℕ → ℕ → ℕ → Unit {0} = λ n. three in
    by_row {rows = messages} type
    (two also two also one also one also one also subscribe-shallow also ok-shallow also four also one also
    update-shallow also four also fetch-shallow also fetch-ok-shallow also three also one also one also
    status-shallow also two also one also three also one also three also two also one also three also one also
    end)

-- ---- what begins with a field

abbrev begins : Ahead → Bool
begins (Field name form) = true
begins Done = false
begins Forbidden = false

-- behind the type of a message that does stands its Length
message-stage : (type : ℕ) (ahead : Ahead) → begins ahead ≡ true → behind_type ahead (Message type) ≡ AtLength
message-stage type (Field name form) h = refl
message-stage type Done h = absurd (let z : ◌≡◌ {A = ℕ} 0 1 = cc in omega arith)
message-stage type Forbidden h = absurd (let z : ◌≡◌ {A = ℕ} 0 1 = cc in omega arith)

-- whether the layout of each row does
abbrev all_begin : List TypeRow → Bool
all_begin [] = true
all_begin (r ∷ rs) = both (begins (ahead_of r.layout)) (all_begin rs)

-- so behind its type stands the Length of a message that stands in a row, and nothing of another
row-stage : (rows : List TypeRow) (type : ℕ) → all_begin rows ≡ true
    → behind_type (ahead_of (on_listed (type_row_in rows type) forbidden (λ r. r.layout))) (Message type) ≡ pick (on_listed (type_row_in rows type) false (λ r. true)) AtLength (Stopped 2)
unfolding type_row_in ahead_of
row-stage [] type h = refl
row-stage (r ∷ rs) type h =
    pick-by (λ (t : InTable). behind_type (ahead_of (on_listed t forbidden (λ r. r.layout))) (Message type) ≡ pick (on_listed t false (λ r. true)) AtLength (Stopped 2)) (eqb type r.number)
    (λ e. message-stage type (ahead_of r.layout) (both_first (begins (ahead_of r.layout)) (all_begin rs) h))
    (λ e. row-stage rs type (both-second (begins (ahead_of r.layout)) (all_begin rs) h))

pub type-stage : (type : ℕ) → behind_type (ahead_at (Message type) []) (Message type) ≡ pick (known type) AtLength (Stopped 2)
unfolding ahead_at laid_out rest_of ahead_of known layout_of type_row_of messages client_setup server_setup go_away subscribe_update subscribe subscribe_ok subscribe_error subscribe_done id_only fetch fetch_ok fetch_error fetch_cancel track_status_request track_status named
type-stage type = row-stage messages type refl

-- ---- headers

-- a layout that begins with a field, behind the type, and has few
abbrev pub Fits : Outline → HeaderTable → Type 0
Fits outline (listed l) = (behind_type (ahead_of l) outline ≡ AtField) × Shallow most_fields l
Fits outline unlisted = Unit {0}

pub datagram-fits : (type : ℕ) → Fits (Datagram type) (datagrams type)
unfolding datagrams object_datagram datagram_status behind status place ahead_of
datagram-fits type =
    pick-by (Fits (Datagram type)) (eqb type object_datagram_row.number) (λ e. (refl, search))
    (λ e. pick-by (Fits (Datagram type)) (eqb type object_datagram_status_row.number) (λ f. (refl, search depth 8)) (λ f. tt))

pub stream-fits : (type : ℕ) → Fits (Stream type) (streams type)
unfolding streams subgroup_header fetch_header ahead_of
stream-fits type =
    pick-by (Fits (Stream type)) (eqb type subgroup_header_row.number) (λ e. (refl, search))
    (λ e. pick-by (Fits (Stream type)) (eqb type fetch_header_row.number) (λ f. (refl, search)) (λ f. tt))

-- ---- objects

pub subgroup-object-shallow : Shallow most_fields subgroup_object
unfolding subgroup_object payload status
subgroup-object-shallow = search

pub fetch-object-shallow : Shallow most_fields fetch_object
unfolding fetch_object payload status
fetch-object-shallow = search depth 8
