-- From its first cursor on, the machine tells the parts of a message, and of each header. Assumes nothing.
use Prim.Native.Nat.{ℕ, ◌+◌, ◌-◌, ◌≤◌, zero-le}
use mathlib.Core.Path.{◌≡◌, refl}
use mathlib.Core.List.{List, []}
use native.Mathlib.Omega.{arith}
use lib.ListN.{length, take, replicate}
use lib.Seq.{take-length, length-take-le}
use lib.Dec.{leb}
use borrow.Author.Tests.{leb-true}
use Rattle.field.specs.Outcome.{on_found}
use Rattle.field.specs.Entries.{number_at}
use Rattle.layout.specs.declared.FieldName.TheVariants.{MessageType, MessageLength}
use Rattle.types.specs.Table.{known}
use Rattle.types.specs.Limits.{longest_body}
use Rattle.header.specs.Layouts.{layout_of as layout_in, InTable, listed, unlisted, on_listed, datagrams, streams}
use Rattle.outline.specs.Places.{rest_of, ahead_of, laid_out, ahead_at}
use Rattle.outline.specs.declared.Outline.{Outline}
use Rattle.outline.specs.declared.Outline.TheVariants.{Message, Datagram, Stream, SubgroupObject, FetchObject}
use Rattle.parts.specs.Cursors.{most_fields, begin_of}
use Rattle.parts.specs.Expecting.{expected_of}
use Rattle.parts.specs.Advancing.{typed_as, behind_type, after_type, after_length, advanced}
use Rattle.parts.specs.Telling.{part_of, cut_by, must_fill, tell_in, next_of}
use Rattle.parts.specs.declared.What.TheVariants.{Number, Length}
use Rattle.parts.specs.declared.Subject.TheVariants.{Message as AMessage, Datagram as ADatagram, Stream as AStream, SubgroupObject as ASubgroupObject, FetchObject as AFetchObject}
use Rattle.parts.specs.declared.Stage.{Stage}
use Rattle.parts.specs.declared.Stage.TheVariants.{TypeNumber as AtType, Length as AtLength, Refused as Stopped, Field as AtField}
use Rattle.parts.specs.declared.Cursor.{Cursor}
use Rattle.explained.specs.Grammar.{parts_of}
use Rattle.explained.specs.Explaining.{Explained, refusing, first, cut_at, explain, body_explained, message_explained, headed_explained, datagram_explained, stream_explained, subgroup_object_explained, fetch_object_explained}
use Rattle.explained.specs.Tiling.{Tells, before}
use Rattle.explained.proofs.AfterOutcomes.{guard-both}
use Rattle.explained.proofs.FilledBytes.{ended}
use Rattle.explained.proofs.ComingParts.{tells-number, cut_of, told}
use Rattle.explained.proofs.PlacesReached.{reached-first, Shallow}
use Rattle.explained.proofs.FieldsCome.{layout-comes}
use Rattle.explained.proofs.FewFields.{message-shallow, type-stage, Fits, datagram-fits, stream-fits, subgroup-object-shallow, fetch-object-shallow}

-- before any field was passed
abbrev start : Outline → Stage → ℕ → ℕ → Cursor
start outline stage at last =
    record { place = record { outline = outline; numbers = replicate most_fields 0; passed = 0 }; stage = stage; at = at; end = last }

-- what was refused is told
refusal-told : (s : List ℕ) (outline : Outline) (number at last : ℕ) → Tells s (start outline (Stopped number) at last) (refusing number)
unfolding next_of tell_in expected_of
refusal-told s outline number at last = before refl

-- ---- the fields of a layout

module _ (s : List ℕ) (outline : Outline) (at : ℕ) where
  -- among the bytes up to an offset,
  fields_told : (last : ℕ) → Shallow most_fields (laid_out outline) → at ≤ length (take last s)
      → Tells s (start outline AtField at last) (ended (must_fill outline) (length (take last s)) (explain (cut_of outline) (parts_of (laid_out outline)) (take last s) at))
  fields_told last w h =
      told outline last s
      (layout-comes outline last (length (take last s)) (laid_out outline) (replicate most_fields 0) 0 most_fields refl refl (reached-first outline) w at) h

  -- or among all
  all_told : Shallow most_fields (laid_out outline) → at ≤ length s
      → Tells s (start outline AtField at (length s)) (ended (must_fill outline) (length s) (explain (cut_of outline) (parts_of (laid_out outline)) s at))
  all_told w h = let z = take-length s in rw z at (fields_told (length s) w (rw z h))

pub subgroup-object-told : (s : List ℕ) → Tells s (begin_of ASubgroupObject (length s)) (subgroup_object_explained s)
unfolding begin_of subgroup_object_explained laid_out
subgroup-object-told s = all_told s SubgroupObject 0 subgroup-object-shallow zero-le

pub fetch-object-told : (s : List ℕ) → Tells s (begin_of AFetchObject (length s)) (fetch_object_explained s)
unfolding begin_of fetch_object_explained laid_out
fetch-object-told s = all_told s FetchObject 0 fetch-object-shallow zero-le

-- ---- the type

type-told : (s : List ℕ) (outline : Outline) (some : ℕ → ℕ → Explained)
    → ((type mid : ℕ) → mid ≤ length s → Tells s (start (typed_as outline type) (behind_type (ahead_at (typed_as outline type) []) (typed_as outline type)) mid (length s)) (some type mid))
    → Tells s (start outline AtType 0 (length s)) (on_found (number_at s 0) (cut_at (cut_by outline AtType) MessageType Number s 0) (λ type mid. first (part_of MessageType Number type 0 mid) (some type mid)))
unfolding tell_in expected_of advanced after_type
type-told s outline some k = tells-number (record { seen-is = take-length s; cuts = refl }) MessageType Number some refl k

-- ---- a header

header-told : (s : List ℕ) (outline : Outline) (mid : ℕ) (t : InTable) → laid_out outline ≡ layout_in t → Fits outline t → mid ≤ length s
    → Tells s (start outline (behind_type (ahead_at outline []) outline) mid (length s)) (on_listed t (refusing 2) (λ l. ended (must_fill outline) (length s) (explain (cut_of outline) (parts_of l) s mid)))
unfolding ahead_at rest_of ahead_of
header-told s outline mid (listed l) e f h =
    let k : behind_type (ahead_of (laid_out outline)) outline ≡ AtField = rw e f.0 in
    rw k (rw e at (all_told s outline mid (rw e f.1) h))
header-told s outline mid unlisted e f h =
    let k : behind_type (ahead_of (laid_out outline)) outline ≡ Stopped 2 = rw e in
    rw k (refusal-told s outline 2 mid (length s))

pub datagram-told : (s : List ℕ) → Tells s (begin_of ADatagram (length s)) (datagram_explained s)
unfolding begin_of datagram_explained headed_explained laid_out
datagram-told s =
    type-told s (Datagram 0) _ (λ type mid h. header-told s (Datagram type) mid (datagrams type) refl (datagram-fits type) h)

pub stream-told : (s : List ℕ) → Tells s (begin_of AStream (length s)) (stream_explained s)
unfolding begin_of stream_explained headed_explained laid_out
stream-told s =
    type-told s (Stream 0) _ (λ type mid h. header-told s (Stream type) mid (streams type) refl (stream-fits type) h)

-- ---- a message

module _ (s : List ℕ) (type : ℕ) where
  -- the body,
  body-told : (mid size at : ℕ) → at ≤ length s → Tells s (after_length (start (Message type) AtLength mid (length s)) size at (length s)) (body_explained s type size at)
  unfolding after_length body_explained laid_out
  body-told mid size at h =
      guard-both (Tells s) (leb size longest_body) _ _ _ _ (refusal-told s (Message type) 3 at (length s)) (λ short.
      guard-both (Tells s) (leb size (length s - at)) _ _ _ _ (refusal-told s (Message type) 1 at (length s)) (λ fits.
      let k : at + size ≤ length s = omega (arith, leb-true size (length s - at) fits) in
      let z : length (take (at + size) s) ≡ at + size = length-take-le (at + size) s k in
      rw z at (fields_told s (Message type) at (at + size) (message-shallow type) (rw z (omega arith)))))

  -- the Length before it,
  length-told : (mid : ℕ) → Tells s (start (Message type) AtLength mid (length s)) (on_found (number_at s mid) (cut_at 1 MessageLength Length s mid) (λ size at. first (part_of MessageLength Length size mid at) (body_explained s type size at)))
  unfolding tell_in expected_of advanced
  length-told mid =
      tells-number (record { seen-is = take-length s; cuts = refl }) MessageLength Length (λ size at. body_explained s type size at) refl
      (λ size at h. body-told mid size at h)

-- and the type before that
pub message-told : (s : List ℕ) → Tells s (begin_of AMessage (length s)) (message_explained s)
unfolding begin_of message_explained
message-told s =
    type-told s (Message 0) _ (λ type mid h. rw (type-stage type)
    (guard-both (λ stage e. Tells s (start (Message type) stage mid (length s)) e) (known type) _ _ _ _
    (refusal-told s (Message type) 2 mid (length s)) (λ is_Known. length-told s type mid)))
