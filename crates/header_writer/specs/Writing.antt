-- What writing a data header does: 5, then 7. Its fields have no sizes, and no length bounds it.
use Rattle.std.specs.Prelude.{ℕ, List, [], ◌++◌, true}
use Rattle.common.specs.Answer.{Written}
use Rattle.common.specs.Choice.{both}
use Rattle.integer.specs.Integer.{enc_of}
use Rattle.field.specs.declared.Piece.{Piece}
use Rattle.layout.specs.Layout.{Layout}
use Rattle.layout.specs.Allowed.{allowed}
use Rattle.measure.specs.Measuring.{right_all, encode_all}
use Rattle.encode.specs.Writing.{written_of}
use Rattle.header.specs.Layouts.{layout_of, datagrams, streams, subgroup_object, fetch_object}
use Rattle.header.specs.Told.{datagram_typed, stream_typed, subgroup_object_pieces, fetch_object_pieces}
use Rattle.header.specs.declared.Datagram.{Datagram}
use Rattle.header.specs.declared.StreamHeader.{StreamHeader}
use Rattle.header.specs.declared.SubgroupObject.{SubgroupObject}
use Rattle.header.specs.declared.FetchObject.{FetchObject}

-- fields over the bytes s, after what stands before them, into a buffer: where their layout forbids none of them
unfoldable pub header_written : Layout → List ℕ → List ℕ → List Piece → List ℕ → Written
header_written l front s ps before =
    written_of (both (allowed l ps) (right_all s ps)) true true (front ++ encode_all s ps) before

-- a datagram, after its type
unfoldable pub datagram_written : List ℕ → Datagram → List ℕ → Written
datagram_written s d before =
    let t = datagram_typed d in
    header_written (layout_of (datagrams t.type)) (enc_of t.type) s t.pieces before

-- the header of a stream, which points into no bytes
unfoldable pub stream_written : StreamHeader → List ℕ → Written
stream_written h before =
    let t = stream_typed h in
    header_written (layout_of (streams t.type)) (enc_of t.type) [] t.pieces before

-- the header of an object, which has no type
unfoldable pub subgroup_object_written : List ℕ → SubgroupObject → List ℕ → Written
subgroup_object_written s o before = header_written subgroup_object [] s (subgroup_object_pieces o) before

unfoldable pub fetch_object_written : List ℕ → FetchObject → List ℕ → Written
fetch_object_written s o before = header_written fetch_object [] s (fetch_object_pieces o) before
