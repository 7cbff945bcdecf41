-- A header that is written: its values are judged first, then its fields. Assumes nothing.
use Prim.Native.Nat.{ℕ}
use mathlib.Core.Path.{◌≡◌, refl, sym, ◌∙◌}
use mathlib.Core.List.{List, [], ◌∷◌}
use mathlib.Core.Bool.{Bool, true, false}
use lib.Dec.{leb}
use Rattle.common.specs.Answer.{Answer, refused, Nothing, Leaves}
use Rattle.integer.specs.Integer.{enc_of, greatest}
use Rattle.field.specs.Value.{mean, enc_field, encode}
use Rattle.field.specs.declared.Piece.{Piece}
use Rattle.field.specs.declared.Piece.TheVariants.{Number}
use Rattle.layout.specs.Layout.{Layout}
use Rattle.layout.specs.Allowed.{allowed}
use Rattle.layout.specs.Typed.{Typed}
use Rattle.measure.specs.Judging.{right, sized}
use Rattle.measure.specs.Measuring.{right_all, sized_all, encode_all}
use Rattle.encode.specs.Writing.{written_of, bare_of}
use Rattle.header.specs.Layouts.{layout_of, datagrams, streams, payload, subgroup_object, fetch_object}
use Rattle.header.specs.Told.{datagram_typed, stream_typed, payload_pieces, subgroup_object_pieces, fetch_object_pieces}
use Rattle.header_writer.specs.Writing.{header_written, datagram_written, stream_written, subgroup_object_written, fetch_object_written}
use Rattle.header.specs.declared.Datagram.{Datagram}
use Rattle.header.specs.declared.Datagram.TheVariants.{Object, Status as WithStatus}
use Rattle.header.specs.declared.StreamHeader.{StreamHeader}
use Rattle.header.specs.declared.StreamHeader.TheVariants.{Subgroup, Fetch}
use Rattle.header.specs.declared.Payload.{Payload}
use Rattle.header.specs.declared.Payload.TheVariants.{Length, Status}
use Rattle.header.specs.declared.SubgroupObject.{SubgroupObject}
use Rattle.header.specs.declared.FetchObject.{FetchObject}
use Rattle.header_writer.proofs.Allows.{stream-allowed}

-- ---- no header has a field with a size, and the number of each type can be written

abbrev pub Writable : List ℕ → Typed → Type 0
Writable s t = (leb t.type greatest ≡ true) × (sized_all s t.pieces ≡ true)

module _ (s : List ℕ) where
  pub datagram-writable : (d : Datagram) → Writable s (datagram_typed d)
  unfolding sized_all sized
  datagram-writable (Object d) = (refl, refl)
  datagram-writable (WithStatus d n) = (refl, refl)

  pub stream-writable : (h : StreamHeader) → Writable s (stream_typed h)
  unfolding sized_all sized
  stream-writable (Subgroup h) = (refl, refl)
  stream-writable (Fetch id) = (refl, refl)

  payload-sized : (p : Payload) → sized_all s (payload_pieces p) ≡ true
  unfolding sized_all sized
  payload-sized (Length n) = refl
  payload-sized (Status n) = refl

  pub subgroup-object-sized : (o : SubgroupObject) → sized_all s (subgroup_object_pieces o) ≡ true
  unfolding sized_all sized
  subgroup-object-sized o = payload-sized o.payload

  pub fetch-object-sized : (o : FetchObject) → sized_all s (fetch_object_pieces o) ≡ true
  unfolding sized_all sized
  fetch-object-sized o = payload-sized o.payload

-- ---- the header of a stream points into no bytes, so it is the same over any

pub stream-any : (s : List ℕ) (h : StreamHeader) (before : List ℕ) → stream_written h before ≡ header_written (layout_of (streams (stream_typed h).type)) (enc_of (stream_typed h).type) s (stream_typed h).pieces before
unfolding stream_written header_written right_all right encode_all mean
stream-any s (Subgroup h) before = refl
stream-any s (Fetch id) before = refl

-- ---- what is written

module _ (s before : List ℕ) {a : Bool} (l : Layout) (ps : List Piece) (judged : a ≡ allowed l ps) where
  -- a value is forbidden,
  pub not-allowed : (front : List ℕ) → a ≡ false → Leaves (header_written l front s ps before) (refused 5) before
  unfolding header_written written_of
  not-allowed front h = let f : allowed l ps ≡ false = sym judged ∙ h in record { says = rw f; holds = rw f }

  module _ {said : Answer Nothing} {after : List ℕ} (h : a ≡ true) (sizes : sized_all s ps ≡ true) where
    -- or none is, and the fields are written alone,
    alone : Leaves (bare_of s ps before) said after → Leaves (header_written l [] s ps before) said after
    unfolding header_written bare_of
    alone w = let g : allowed l ps ≡ true = sym judged ∙ h in rw g (rw sizes at w)

    -- or after a type, which is one number more
    behind-type : (type : ℕ) → leb type greatest ≡ true → Leaves (bare_of s (Number type ∷ ps) before) said after → Leaves (header_written l (enc_of type) s ps before) said after
    unfolding header_written bare_of right_all right sized_all sized encode_all encode mean enc_field
    behind-type type small w = let g : allowed l ps ≡ true = sym judged ∙ h in rw g (rw (small, sizes) at w)

-- the number of its type, and then its fields
abbrev pub numbered : Typed → List Piece
numbered t = Number t.type ∷ t.pieces

-- a datagram,
pub datagram-written : (s : List ℕ) (d : Datagram) (before : List ℕ) {a : Bool} {said : Answer Nothing} {after : List ℕ} → a ≡ allowed (layout_of (datagrams (datagram_typed d).type)) (datagram_typed d).pieces → a ≡ true → Leaves (bare_of s (numbered (datagram_typed d)) before) said after → Leaves (datagram_written s d before) said after
unfolding datagram_written
datagram-written s d before judged h l =
    let w = datagram-writable s d in
    behind-type s before (layout_of (datagrams (datagram_typed d).type)) (datagram_typed d).pieces judged h w.1 (datagram_typed d).type w.0 l

-- the header of a stream, which holds nothing that could be forbidden,
pub stream-written : (h : StreamHeader) (before : List ℕ) {said : Answer Nothing} {after : List ℕ} → Leaves (bare_of [] (numbered (stream_typed h)) before) said after → Leaves (stream_written h before) said after
unfolding stream_written
stream-written h before l =
    let w = stream-writable [] h in
    behind-type [] before (layout_of (streams (stream_typed h).type)) (stream_typed h).pieces (stream-allowed h) refl w.1 (stream_typed h).type w.0 l

-- and the headers of objects, which have no type
pub subgroup-object-written : (s : List ℕ) (o : SubgroupObject) (before : List ℕ) {a : Bool} {said : Answer Nothing} {after : List ℕ} → a ≡ allowed payload (payload_pieces o.payload) → a ≡ true → Leaves (bare_of s (subgroup_object_pieces o) before) said after → Leaves (subgroup_object_written s o before) said after
unfolding subgroup_object_written allowed subgroup_object
subgroup-object-written s o before judged h l =
    alone s before subgroup_object (subgroup_object_pieces o) judged h (subgroup-object-sized s o) l

pub fetch-object-written : (s : List ℕ) (o : FetchObject) (before : List ℕ) {a : Bool} {said : Answer Nothing} {after : List ℕ} → a ≡ allowed payload (payload_pieces o.payload) → a ≡ true → Leaves (bare_of s (fetch_object_pieces o) before) said after → Leaves (fetch_object_written s o before) said after
unfolding fetch_object_written allowed fetch_object
fetch-object-written s o before judged h l =
    alone s before fetch_object (fetch_object_pieces o) judged h (fetch-object-sized s o) l
