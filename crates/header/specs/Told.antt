-- Each header as its fields, in the order of its layout, with the number of its type where it has one; and what a
-- reader answers.
use Rattle.std.specs.Prelude.{ℕ, List, [], ◌∷◌, ◌++◌, Result, Ok, Err}
use Rattle.common.specs.Answer.{Answer, whole as answered, refused}
use Rattle.integer.specs.declared.Cut.{Cut as Ended}
use Rattle.field.specs.Outcome.{Outcome, whole, no}
use Rattle.field.specs.Told.{told_cut}
use Rattle.field.specs.declared.Fault.{Fault}
use Rattle.field.specs.declared.Fault.TheVariants.{Cut, Forbidden}
use Rattle.field.specs.declared.Piece.{Piece}
use Rattle.field.specs.declared.Piece.TheVariants.{Number, Byte, Bytes}
use Rattle.layout.specs.Typed.{Typed}
use Rattle.header.specs.Layouts.{object_datagram_row, object_datagram_status_row, subgroup_header_row, fetch_header_row, typed_as}
use Rattle.header.specs.Faults.{datagram_number, stream_number, object_number}
use Rattle.header.specs.declared.ObjectDatagram.{ObjectDatagram}
use Rattle.header.specs.declared.Datagram.{Datagram}
use Rattle.header.specs.declared.Datagram.TheVariants.{Object, Status as WithStatus}
use Rattle.header.specs.declared.SubgroupHeader.{SubgroupHeader}
use Rattle.header.specs.declared.StreamHeader.{StreamHeader}
use Rattle.header.specs.declared.StreamHeader.TheVariants.{Subgroup, Fetch}
use Rattle.header.specs.declared.Payload.{Payload}
use Rattle.header.specs.declared.Payload.TheVariants.{Length, Status}
use Rattle.header.specs.declared.SubgroupObject.{SubgroupObject}
use Rattle.header.specs.declared.FetchObject.{FetchObject}
use Rattle.header.specs.declared.DatagramFault.{DatagramFault}
use Rattle.header.specs.declared.StreamFault.{StreamFault}
use Rattle.header.specs.declared.ObjectFault.{ObjectFault}
use Rattle.header.specs.declared.ObjectFault.TheVariants.{More as MoreObject, Forbidden as ForbiddenObject}

abbrev pub object_pieces : ObjectDatagram → List Piece
object_pieces d =
    Number d.alias ∷ Number d.place.group ∷ Number d.place.object ∷ Byte d.priority
    ∷ Bytes d.extensions ∷ []

abbrev pub datagram_typed : Datagram → Typed
datagram_typed (Object d) = typed_as object_datagram_row (object_pieces d)
datagram_typed (WithStatus d n) = typed_as object_datagram_status_row (object_pieces d ++ Number n ∷ [])

abbrev pub subgroup_pieces : SubgroupHeader → List Piece
subgroup_pieces h = Number h.alias ∷ Number h.group ∷ Number h.subgroup ∷ Byte h.priority ∷ []

abbrev pub stream_typed : StreamHeader → Typed
stream_typed (Subgroup h) = typed_as subgroup_header_row (subgroup_pieces h)
stream_typed (Fetch id) = typed_as fetch_header_row (Number id ∷ [])

-- the length of the payload; or a length of 0, and the status
abbrev pub payload_pieces : Payload → List Piece
payload_pieces (Length n) = Number n ∷ []
payload_pieces (Status n) = Number 0 ∷ Number n ∷ []

abbrev pub subgroup_object_pieces : SubgroupObject → List Piece
subgroup_object_pieces o = Number o.object ∷ Bytes o.extensions ∷ payload_pieces o.payload

abbrev pub fetch_object_pieces : FetchObject → List Piece
fetch_object_pieces o =
    Number o.group ∷ Number o.subgroup ∷ Number o.object ∷ Byte o.priority ∷ Bytes o.extensions
    ∷ payload_pieces o.payload

-- ---- 01's number and values of what is answered

abbrev pub told_datagram : Result (Datagram × ℕ) DatagramFault → Answer Typed
told_datagram (Ok (d, used)) = answered (datagram_typed d) used
told_datagram (Err fault) = refused (datagram_number fault)

abbrev pub told_stream : Result (StreamHeader × ℕ) StreamFault → Answer Typed
told_stream (Ok (h, used)) = answered (stream_typed h) used
told_stream (Err fault) = refused (stream_number fault)

abbrev pub told_subgroup_object : Result (SubgroupObject × ℕ) ObjectFault → Answer (List Piece)
told_subgroup_object (Ok (o, used)) = answered (subgroup_object_pieces o) used
told_subgroup_object (Err fault) = refused (object_number fault)

abbrev pub told_fetch_object : Result (FetchObject × ℕ) ObjectFault → Answer (List Piece)
told_fetch_object (Ok (o, used)) = answered (fetch_object_pieces o) used
told_fetch_object (Err fault) = refused (object_number fault)

-- ---- what the readers of their parts answer

abbrev pub told_object : Result ObjectDatagram Ended → Outcome (List Piece)
told_object = told_cut λ d. whole (object_pieces d) d.extensions.end

abbrev pub told_subgroup : Result (SubgroupHeader × ℕ) Ended → Outcome (List Piece)
told_subgroup = told_cut λ (h, end). whole (subgroup_pieces h) end

-- more is needed where a field is cut
abbrev pub fault_of : ObjectFault → Fault
fault_of MoreObject = Cut
fault_of ForbiddenObject = Forbidden

abbrev pub told_payload : Result (Payload × ℕ) ObjectFault → Outcome (List Piece)
told_payload (Ok (p, end)) = whole (payload_pieces p) end
told_payload (Err fault) = no (fault_of fault)
