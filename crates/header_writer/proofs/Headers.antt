-- The four headers keep what reader and writer owe each other, and are written as their only shortest form. Assumes nothing.
use Prim.Native.Nat.{ℕ, ◌≤◌}
use mathlib.Core.Path.{◌≡◌, refl, ap}
use mathlib.Core.Bool.{Bool, true, false}
use mathlib.Core.List.{List, [], ◌++◌}
use native.Mathlib.Omega.{arith}
use lib.ListN.{length, take}
use lib.Dec.{lit≤}
use Rattle.common.specs.Answer.{Answer, whole as answered}
use Rattle.integer.specs.Integer.{enc_of}
use Rattle.field.specs.Outcome.{answer}
use Rattle.field.specs.declared.Piece.{Piece}
use Rattle.layout.specs.Layout.{Layout, scan}
use Rattle.layout.specs.Typed.{Typed}
use Rattle.measure.specs.Measuring.{sized_all}
use Rattle.header.specs.Layouts as layouts
use Rattle.header.specs.Layouts.{InTable, layout_of, datagrams, streams}
use Rattle.header.specs.Told.{datagram_typed, stream_typed, subgroup_object_pieces, fetch_object_pieces}
use Rattle.header.specs.Reading.{headed_of, datagram_of, stream_of, subgroup_object_of, fetch_object_of}
use Rattle.header_writer.specs.Writing.{header_written, datagram_written, subgroup_object_written, fetch_object_written}
use Rattle.header_writer.specs.Laws.{Kept, Shortest}
use Rattle.header_writer.specs.Codecs.{takes_payload, datagram_codec, stream_codec, untyped, subgroup_object_codec, fetch_object_codec}
use Rattle.header_writer.proofs.Shape.{Fits, Shaped, datagram-shape, stream-shape, subgroup-object-shape, fetch-object-shape}
use Rattle.header_writer.proofs.Writes.{Writable, datagram-writable, stream-writable, stream-any, subgroup-object-sized, fetch-object-sized}
use Rattle.header.proofs.Front.{was-whole}
use Rattle.header_writer.proofs.Fields as fields
use Rattle.header_writer.proofs.Keeps.{bare-back, typed-back, typed-count, typed-no-longer, typed-only-room, typed-written-again}
use Rattle.header_writer.proofs.Follows.{is-headed, may-follow}
use Rattle.header_writer.proofs.Shortest.{Form, shortest, bare-form, typed-form}

-- ---- headers without a type

module _ {A : Type 0} (l : Layout) (said : A → List Piece) (shape : (s : List ℕ) (a : A) → Fits l s (said a)) (sizes : (s : List ℕ) (a : A) → sized_all s (said a) ≡ true) where
  bare-kept : Kept (record { fields = said; typed = untyped; read_of = λ s. answer 1 (scan l s 0); write_of = λ s a before. header_written l [] s (said a) before; takes_more = λ _. true })
  bare-kept =
      record {
        reads-back = λ s a before rest says _.
            let b = bare-back l s (said a) (shape s a) (sizes s a) before rest says in
            record { found = b.found; reads = ap (answer 1) b.reads; same = record { type = refl; values = b.means } };
        no_longer = λ s a before read. fields.no_longer l [] s (said a) (shape s a) before (was-whole (scan l s 0) read) (lit≤ tt);
        only-room = λ s a before read. fields.only-room l [] s (said a) (shape s a) before (was-whole (scan l s 0) read) (lit≤ tt);
        written-again = λ s a before read. fields.written-again l [] s (said a) (shape s a) before (was-whole (scan l s 0) read) (lit≤ tt);
      }

pub subgroup-object-kept : Kept subgroup_object_codec
unfolding subgroup_object_of subgroup_object_written
subgroup-object-kept = bare-kept layouts.subgroup_object subgroup_object_pieces subgroup-object-shape subgroup-object-sized

pub fetch-object-kept : Kept fetch_object_codec
unfolding fetch_object_of fetch_object_written
fetch-object-kept = bare-kept layouts.fetch_object fetch_object_pieces fetch-object-shape fetch-object-sized

-- ---- headers after a type

module _ {A : Type 0} (cut : ℕ) (types : ℕ → InTable) (said : A → Typed) (shape : (s : List ℕ) (a : A) → Shaped types s (said a)) (writable : (s : List ℕ) (a : A) → Writable s (said a)) where
  -- a reader that says whole where a header is read whole, and only bytes follow that may
  record Reader (takes_more : A → Bool) (read_of : List ℕ → Answer Typed) : Type 0 where
    heads : (s : List ℕ) {t : Typed} {used : ℕ} → read_of s ≡ answered t used → headed_of cut types s ≡ answered t used
    reads : (a : A) (s rest : List ℕ) {t : Typed} {used : ℕ} → t.type ≡ (said a).type → (takes_more a ≡ false → rest ≡ []) → length s ≤ used → headed_of cut types (s ++ rest) ≡ answered t used → read_of (s ++ rest) ≡ answered t used

  module _ (takes_more : A → Bool) (read_of : List ℕ → Answer Typed) (r : Reader takes_more read_of) where
    typed-kept : Kept (record { fields = said; typed = λ t. t; read_of = read_of; write_of = λ s a before. header_written (layout_of (types (said a).type)) (enc_of (said a).type) s (said a).pieces before; takes_more = takes_more })
    typed-kept =
        record {
          reads-back = λ s a before rest {n} says follows.
              let b = typed-back cut types s (shape s a) before (writable s a) rest says in
              let bytes = take n (header_written (layout_of (types (said a).type)) (enc_of (said a).type) s (said a).pieces before).holds in
              record { found = b.found; reads = r.reads a bytes rest b.same.type follows (omega (arith, typed-count cut types s (shape s a) before (writable s a) says)) b.reads; same = b.same };
          no_longer = λ s a before read. typed-no-longer cut types s (shape s a) before (r.heads s read);
          only-room = λ s a before read. typed-only-room cut types s (shape s a) before (r.heads s read);
          written-again = λ s a before read. typed-written-again cut types s (shape s a) before (r.heads s read);
        }

pub datagram-kept : Kept datagram_codec
unfolding datagram_written
datagram-kept =
    typed-kept 4 datagrams datagram_typed datagram-shape datagram-writable takes_payload datagram_of
    (record { heads = λ s h. is-headed s h; reads = λ d s rest e f end h. may-follow d s rest e f end h })

-- that of a stream is written the same over any bytes
stream-over : Kept (record { fields = stream_typed; typed = λ t. t; read_of = stream_of; write_of = λ s h before. header_written (layout_of (streams (stream_typed h).type)) (enc_of (stream_typed h).type) s (stream_typed h).pieces before; takes_more = λ _. true })
unfolding stream_of
stream-over =
    typed-kept 1 streams stream_typed stream-shape stream-writable (λ _. true) stream_of
    (record { heads = λ s h. h; reads = λ a s rest e f end h. h })

pub stream-kept : Kept stream_codec
stream-kept =
    record {
      reads-back = λ s h before rest says f.
          let b = stream-over.reads-back s h before rest (rw (stream-any s h before) at says) f in
          rw (stream-any s h before) (record { found = b.found; reads = b.reads; same = b.same });
      no_longer = λ s h before read says. stream-over.no_longer s h before read (rw (stream-any s h before) at says);
      only-room = λ s h before read says. stream-over.only-room s h before read (rw (stream-any s h before) at says);
      written-again = λ s h before read room. rw (stream-any s h before) (stream-over.written-again s h before read room);
    }

-- ---- the only shortest form

pub datagram-shortest : Shortest datagram_codec
unfolding datagram_written
datagram-shortest =
    shortest datagram_codec (typed-form 4 datagrams datagram_typed takes_payload datagram_of (λ s t used h. is-headed s h))

-- that of a stream, whatever bytes it is written over
stream-form : Form stream_codec
unfolding stream_of
stream-form =
    let f = typed-form 1 streams stream_typed (λ _. true) stream_of (λ s t used h. h) in
    record {
      form = f.form;
      written = λ s h before says. rw (stream-any s h before) (f.written s h before (rw (stream-any s h before) at says));
      least = f.least;
      alike = f.alike;
    }

pub stream-shortest : Shortest stream_codec
stream-shortest = shortest stream_codec stream-form

pub subgroup-object-shortest : Shortest subgroup_object_codec
unfolding subgroup_object_of subgroup_object_written
subgroup-object-shortest =
    shortest subgroup_object_codec (bare-form layouts.subgroup_object subgroup_object_pieces)

pub fetch-object-shortest : Shortest fetch_object_codec
unfolding fetch_object_of fetch_object_written
fetch-object-shortest = shortest fetch_object_codec (bare-form layouts.fetch_object fetch_object_pieces)
