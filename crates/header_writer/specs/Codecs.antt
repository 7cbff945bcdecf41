-- The four headers that are read and written.
use Rattle.std.specs.Prelude.{List, Bool, true, false}
use Rattle.field.specs.declared.Piece.{Piece}
use Rattle.layout.specs.Typed.{Typed}
use Rattle.header.specs.Told.{datagram_typed, stream_typed, subgroup_object_pieces, fetch_object_pieces}
use Rattle.header.specs.Reading.{datagram_of, stream_of, subgroup_object_of, fetch_object_of}
use Rattle.header_writer.specs.Writing.{datagram_written, stream_written, subgroup_object_written, fetch_object_written}
use Rattle.header_writer.specs.Laws.{Codec}
use Rattle.header.specs.declared.Datagram.{Datagram}
use Rattle.header.specs.declared.Datagram.TheVariants.{Object, Status}
use Rattle.header.specs.declared.StreamHeader.{StreamHeader}
use Rattle.header.specs.declared.SubgroupObject.{SubgroupObject}
use Rattle.header.specs.declared.FetchObject.{FetchObject}

-- a payload follows the header of an object datagram, and nothing a status
abbrev pub takes_payload : Datagram → Bool
takes_payload (Object d) = true
takes_payload (Status d n) = false

abbrev pub datagram_codec : Codec Datagram Typed
datagram_codec =
    record {
      fields = datagram_typed;
      typed = λ t. t;
      read_of = datagram_of;
      write_of = datagram_written;
      takes_more = takes_payload;
    }

-- the header of a stream points into no bytes
abbrev pub stream_codec : Codec StreamHeader Typed
stream_codec =
    record {
      fields = stream_typed;
      typed = λ t. t;
      read_of = stream_of;
      write_of = λ s h before. stream_written h before;
      takes_more = λ _. true;
    }

-- the header of an object has no type: 0 stands in its place
abbrev pub untyped : List Piece → Typed
untyped ps = record { type = 0; pieces = ps }

abbrev pub subgroup_object_codec : Codec SubgroupObject (List Piece)
subgroup_object_codec =
    record {
      fields = subgroup_object_pieces;
      typed = untyped;
      read_of = subgroup_object_of;
      write_of = subgroup_object_written;
      takes_more = λ _. true;
    }

abbrev pub fetch_object_codec : Codec FetchObject (List Piece)
fetch_object_codec =
    record {
      fields = fetch_object_pieces;
      typed = untyped;
      read_of = fetch_object_of;
      write_of = fetch_object_written;
      takes_more = λ _. true;
    }
