-- Each message and each header that was read, written again. Assumes nothing.
use Prim.Native.Nat.{ℕ, ◌≤◌, ◌<◌}
use mathlib.Core.Path.{◌≡◌, refl, ap, ◌∙◌}
use mathlib.Core.Bool.{Bool, true}
use mathlib.Core.List.{List, []}
use lib.ListN.{length}
use lib.Dec.{leb}
use Rattle.common.specs.Answer.{Answer, whole, refused, Written}
use Rattle.common.specs.Choice.{both}
use Rattle.integer.specs.Integer.{greatest}
use Rattle.field.specs.Value.{mean}
use Rattle.layout.specs.Allowed.{allowed}
use Rattle.measure.specs.Measuring.{right_all, sized_all, encode_all}
use Rattle.encode.specs.Writing.{written_of}
use Rattle.message.specs.Types.{typed_of}
use Rattle.types.specs.Limits.{longest_body}
use Rattle.message.specs.Reading.{read_of}
use Rattle.message_writer.specs.Writing.{allowed_of, write_up_to, write_of}
use Rattle.message_writer.proofs.Theorems as messages
use Rattle.header.specs.Layouts.{layout_of, datagrams, streams, subgroup_object, fetch_object}
use Rattle.header.specs.Told.{datagram_typed, stream_typed, subgroup_object_pieces, fetch_object_pieces}
use Rattle.header.specs.Reading.{datagram_of, stream_of, subgroup_object_of, fetch_object_of}
use Rattle.header_writer.specs.Writing.{header_written, datagram_written, stream_written, subgroup_object_written, fetch_object_written}
use Rattle.header.specs.declared.StreamHeader.{StreamHeader}
use Rattle.header.specs.declared.StreamHeader.TheVariants.{Subgroup, Fetch}
use Rattle.header_writer.proofs.Theorems as headers
use Rattle.rewrite.specs.Rewriting.{Doing, Does, rewriting, type_in, no_type, framed_form, typed_form, control_again, datagram_again, stream_again, subgroup_object_again, fetch_object_again}
use Rattle.rewrite.proofs.CallEnds.{by-room, Ends}
use Rattle.rewrite.proofs.CallEnds as ending

-- ---- what every call stands on

-- A thing A, of which reading tells B, by its form over the bytes s and its type: the writer puts this form, and refuses what was read
-- for want of room alone; and what is asked of the call is to write it again.
pub record Rewrites {A B : Type 0} (said : A → B) (read_of : List ℕ → Answer B) (write_of : List ℕ → A → List ℕ → Written) (form : List ℕ → B → List ℕ) (type : B → ℕ) (again : List ℕ → List ℕ → List ℕ → Doing) : Type 0 where
  pub only-room : (s : List ℕ) (a : A) (out : List ℕ) {used k : ℕ} → read_of s ≡ whole (said a) used → (write_of s a out).says ≡ refused k → k ≡ 7
  pub is_right : List ℕ → A → Bool
  pub is_sized : List ℕ → A → Bool
  pub is_short : List ℕ → A → Bool
  pub puts : (s : List ℕ) (a : A) (out : List ℕ) → write_of s a out ≡ written_of (is_right s a) (is_sized s a) (is_short s a) (form s (said a)) out
  pub does : (s out info : List ℕ) → again s out info ≡ rewriting (read_of s) (form s) type out info

module _ {A B : Type 0} {said : A → B} {read_of : List ℕ → Answer B} {write_of : List ℕ → A → List ℕ → Written} {form : List ℕ → B → List ℕ} {type : B → ℕ} {again : List ℕ → List ℕ → List ℕ → Doing} (h : Rewrites said read_of write_of form type again) (s out info : List ℕ) where
  -- nothing was read
  pub refusing : {n : ℕ} → read_of s ≡ refused n → Does (again s out info) n out info
  refusing e = rw (h.does s out info) (ending.refusing (form s) type out info e)

  -- `info` is too short
  pub short : {b : B} {used : ℕ} → read_of s ≡ whole b used → length info < 3 → Does (again s out info) 7 out info
  short e less = rw (h.does s out info) (ending.short (form s) type out info e less)

  -- the writer was called
  pub writing : (a : A) {used n : ℕ} {after told : List ℕ} → read_of s ≡ whole (said a) used → 3 ≤ length info
      → Ends (write_of s a out) used (type (said a)) info n after told → Does (again s out info) n after told
  writing a e enough x =
      rw (h.does s out info)
      (ending.writing (form s) type out info e enough
      (rw (h.puts s a out ∙ by-room (h.is_right s a) (h.is_sized s a) (h.is_short s a) (form s (said a)) out (λ k r. h.only-room s a out e (ap (λ w. w.says) (h.puts s a out) ∙ r))) at x))

-- ---- each of the five

pub control : Rewrites typed_of read_of write_of framed_form type_in control_again
unfolding control_again write_up_to
control =
    record {
      only-room = λ s m out e r. messages.only-room s m out e r;
      is_right = λ s m. both (allowed_of m) (both (leb (typed_of m).type greatest) (right_all s (typed_of m).pieces));
      is_sized = λ s m. sized_all s (typed_of m).pieces;
      is_short = λ s m. leb (length (encode_all s (typed_of m).pieces)) longest_body;
      puts = λ s m out. refl;
      does = λ s out info. refl;
    }

pub datagram : Rewrites datagram_typed datagram_of datagram_written typed_form type_in datagram_again
unfolding datagram_again datagram_written header_written
datagram =
    record {
      only-room = (headers.datagram-kept).only-room;
      is_right = λ s d. both (allowed (layout_of (datagrams (datagram_typed d).type)) (datagram_typed d).pieces) (right_all s (datagram_typed d).pieces);
      is_sized = λ s d. true;
      is_short = λ s d. true;
      puts = λ s d out. refl;
      does = λ s out info. refl;
    }

-- numbers and bytes are the same over any bytes
stream-anywhere : (s : List ℕ) (h : StreamHeader) → encode_all [] (stream_typed h).pieces ≡ encode_all s (stream_typed h).pieces
unfolding encode_all mean
stream-anywhere s (Subgroup h) = refl
stream-anywhere s (Fetch id) = refl

pub stream : Rewrites stream_typed stream_of (λ s h before. stream_written h before) typed_form type_in stream_again
unfolding stream_again stream_written header_written
stream =
    record {
      only-room = (headers.stream-kept).only-room;
      is_right = λ s h. both (allowed (layout_of (streams (stream_typed h).type)) (stream_typed h).pieces) (right_all [] (stream_typed h).pieces);
      is_sized = λ s h. true;
      is_short = λ s h. true;
      puts = λ s h out. rw (stream-anywhere s h);
      does = λ s out info. refl;
    }

pub subgroup-object : Rewrites subgroup_object_pieces subgroup_object_of subgroup_object_written encode_all no_type subgroup_object_again
unfolding subgroup_object_again subgroup_object_written header_written
subgroup-object =
    record {
      only-room = (headers.subgroup-object-kept).only-room;
      is_right = λ s o. both (allowed subgroup_object (subgroup_object_pieces o)) (right_all s (subgroup_object_pieces o));
      is_sized = λ s o. true;
      is_short = λ s o. true;
      puts = λ s o out. refl;
      does = λ s out info. refl;
    }

pub fetch-object : Rewrites fetch_object_pieces fetch_object_of fetch_object_written encode_all no_type fetch_object_again
unfolding fetch_object_again fetch_object_written header_written
fetch-object =
    record {
      only-room = (headers.fetch-object-kept).only-room;
      is_right = λ s o. both (allowed fetch_object (fetch_object_pieces o)) (right_all s (fetch_object_pieces o));
      is_sized = λ s o. true;
      is_short = λ s o. true;
      puts = λ s o out. refl;
      does = λ s out info. refl;
    }
