-- One possible answer: 01's number and values lose nothing. Fields, and a type where there is one, are those of one header, which is
-- made of them again, each by its position; and so is the answer that tells it. Assumes nothing.
use mathlib.Core.Path.{◌≡◌, refl}
use mathlib.Core.List.{List, [], ◌∷◌}
use lib.ListN.{drop}
use lib.Dec.{eqb}
use Rattle.std.specs.Prelude.{ℕ, Result, Ok, Err}
use Rattle.common.specs.Choice.{pick}
use Rattle.common.specs.Answer.{Answer, whole as answered, refused}
use Rattle.common.proofs.Telling.{once}
use Rattle.field.specs.declared.Piece.{Piece}
use Rattle.layout.specs.Layout.{control}
use Rattle.layout.specs.Typed.{Typed}
use Rattle.layout.proofs.Parts.{number_in, bytes_in, place_in}
use Rattle.header.specs.Layouts.{object_datagram_row, subgroup_header_row}
use Rattle.header.specs.Told.{datagram_typed, stream_typed, payload_pieces, subgroup_object_pieces, fetch_object_pieces, told_datagram, told_stream, told_subgroup_object, told_fetch_object}
use Rattle.header.specs.declared.ObjectDatagram.{ObjectDatagram}
use Rattle.header.specs.declared.Datagram.{Datagram}
use Rattle.header.specs.declared.Datagram.TheVariants.{Object, Status as WithStatus}
use Rattle.header.specs.declared.StreamHeader.{StreamHeader}
use Rattle.header.specs.declared.StreamHeader.TheVariants.{Subgroup, Fetch}
use Rattle.header.specs.declared.Payload.{Payload}
use Rattle.header.specs.declared.Payload.TheVariants.{Length, Status}
use Rattle.header.specs.declared.SubgroupObject.{SubgroupObject}
use Rattle.header.specs.declared.FetchObject.{FetchObject}
use Rattle.header.specs.declared.DatagramFault.{DatagramFault}
use Rattle.header.specs.declared.DatagramFault.TheVariants as datagram
use Rattle.header.specs.declared.StreamFault.{StreamFault}
use Rattle.header.specs.declared.StreamFault.TheVariants as stream
use Rattle.header.specs.declared.ObjectFault.{ObjectFault}
use Rattle.header.specs.declared.ObjectFault.TheVariants as object

-- ---- datagrams

object_in : List Piece → ObjectDatagram
object_in ps = record { alias = number_in ps 0; place = place_in ps 1; priority = number_in ps 3; extensions = bytes_in ps 4 }

datagram_in : Typed → Datagram
datagram_in t =
    pick (eqb t.type object_datagram_row.number) (Object (object_in t.pieces)) (WithStatus (object_in t.pieces) (number_in t.pieces 5))

datagram-back : (d : Datagram) → datagram_in (datagram_typed d) ≡ d
unfolding datagram_in object_in
datagram-back (Object d) = refl
datagram-back (WithStatus d n) = refl

datagram_heard : Answer Typed → Result (Datagram × ℕ) DatagramFault
datagram_heard (answered t used) = Ok (datagram_in t, used)
datagram_heard (refused n) = Err (pick (eqb n 2) datagram.Unknown (pick (eqb n 4) datagram.Cut datagram.Forbidden))

datagram-heard : (a : Result (Datagram × ℕ) DatagramFault) → datagram_heard (told_datagram a) ≡ a
unfolding datagram_heard
datagram-heard (Ok (d, used)) = rw datagram-back
datagram-heard (Err datagram.Unknown) = refl
datagram-heard (Err datagram.Cut) = refl
datagram-heard (Err datagram.Forbidden) = refl

-- ---- the headers of streams

stream_in : Typed → StreamHeader
stream_in t =
    let ps = t.pieces in
    pick (eqb t.type subgroup_header_row.number)
    (Subgroup (record { alias = number_in ps 0; group = number_in ps 1; subgroup = number_in ps 2; priority = number_in ps 3 }))
    (Fetch (number_in ps 0))

stream-back : (h : StreamHeader) → stream_in (stream_typed h) ≡ h
unfolding stream_in
stream-back (Subgroup h) = refl
stream-back (Fetch id) = refl

stream_heard : Answer Typed → Result (StreamHeader × ℕ) StreamFault
stream_heard (answered t used) = Ok (stream_in t, used)
stream_heard (refused n) = Err (pick (eqb n 1) stream.More stream.Unknown)

stream-heard : (a : Result (StreamHeader × ℕ) StreamFault) → stream_heard (told_stream a) ≡ a
unfolding stream_heard
stream-heard (Ok (h, used)) = rw stream-back
stream-heard (Err stream.More) = refl
stream-heard (Err stream.Unknown) = refl

-- ---- the headers of objects

-- a length alone, or a status after it
payload_in : List Piece → Payload
payload_in [] = Length 0
payload_in (p ∷ []) = Length (control p)
payload_in (p ∷ (q ∷ qs)) = Status (control q)

payload-back : (p : Payload) → payload_in (payload_pieces p) ≡ p
unfolding payload_in
payload-back (Length n) = refl
payload-back (Status n) = refl

subgroup_object_in : List Piece → SubgroupObject
subgroup_object_in ps = record { object = number_in ps 0; extensions = bytes_in ps 1; payload = payload_in (drop 2 ps) }

subgroup-object-back : (o : SubgroupObject) → subgroup_object_in (subgroup_object_pieces o) ≡ o
unfolding subgroup_object_in
subgroup-object-back o = rw payload-back

fetch_object_in : List Piece → FetchObject
fetch_object_in ps =
    record {
      group = number_in ps 0;
      subgroup = number_in ps 1;
      object = number_in ps 2;
      priority = number_in ps 3;
      extensions = bytes_in ps 4;
      payload = payload_in (drop 5 ps);
    }

fetch-object-back : (o : FetchObject) → fetch_object_in (fetch_object_pieces o) ≡ o
unfolding fetch_object_in
fetch-object-back o = rw payload-back

subgroup_heard : Answer (List Piece) → Result (SubgroupObject × ℕ) ObjectFault
subgroup_heard (answered ps used) = Ok (subgroup_object_in ps, used)
subgroup_heard (refused n) = Err (pick (eqb n 1) object.More object.Forbidden)

subgroup-heard : (a : Result (SubgroupObject × ℕ) ObjectFault) → subgroup_heard (told_subgroup_object a) ≡ a
unfolding subgroup_heard
subgroup-heard (Ok (o, used)) = rw subgroup-object-back
subgroup-heard (Err object.More) = refl
subgroup-heard (Err object.Forbidden) = refl

fetch_heard : Answer (List Piece) → Result (FetchObject × ℕ) ObjectFault
fetch_heard (answered ps used) = Ok (fetch_object_in ps, used)
fetch_heard (refused n) = Err (pick (eqb n 1) object.More object.Forbidden)

fetch-heard : (a : Result (FetchObject × ℕ) ObjectFault) → fetch_heard (told_fetch_object a) ≡ a
unfolding fetch_heard
fetch-heard (Ok (o, used)) = rw fetch-object-back
fetch-heard (Err object.More) = refl
fetch-heard (Err object.Forbidden) = refl

-- ---- so nothing is lost: what is answered is answered in one way

pub datagram-once : (a b : Result (Datagram × ℕ) DatagramFault) → told_datagram a ≡ told_datagram b → a ≡ b
datagram-once = once told_datagram datagram_heard datagram-heard

pub stream-once : (a b : Result (StreamHeader × ℕ) StreamFault) → told_stream a ≡ told_stream b → a ≡ b
stream-once = once told_stream stream_heard stream-heard

pub subgroup-object-once : (a b : Result (SubgroupObject × ℕ) ObjectFault) → told_subgroup_object a ≡ told_subgroup_object b → a ≡ b
subgroup-object-once = once told_subgroup_object subgroup_heard subgroup-heard

pub fetch-object-once : (a b : Result (FetchObject × ℕ) ObjectFault) → told_fetch_object a ≡ told_fetch_object b → a ≡ b
fetch-object-once = once told_fetch_object fetch_heard fetch-heard
